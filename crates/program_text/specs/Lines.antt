-- The lines of a program: which words each has.
use Rattle.std.specs.Prelude.{ℕ, List, [], ◌∷◌, ◌++◌, if◌then◌else◌, Option, Some, None, option_map, option_and_then}
use Rattle.std.specs.Prelude.{codes}
use Rattle.std.specs.Char.{is_ascii}
use Rattle.std.specs.List.{list_all}
use Rattle.std.specs.Str.{bytes_eq}
use Rattle.script_text.specs.declared.lines.Line.{Line}
use Rattle.script_text.specs.declared.lines.Line.TheVariants as script
use Rattle.script_text.specs.Lines.{call_from, line_from, words_of}
use Rattle.script_text.specs.Words.{name_from, number_from}
use Rattle.program_text.specs.declared.lines.ProgramLine.{ProgramLine}
use Rattle.program_text.specs.declared.lines.ProgramLine.TheVariants.{World, Object, Thread, Call, Clock, Spurious}

-- the one name behind `thread`
abbrev pub thread_from : List (List ℕ) → Option ProgramLine
thread_from [] = None
thread_from (w ∷ []) = option_map Thread (name_from w)
thread_from (w ∷ v ∷ ws) = None

-- the one number behind `spurious`
abbrev pub spurious_from : List (List ℕ) → Option ProgramLine
spurious_from [] = None
spurious_from (w ∷ []) = option_map Spurious (number_from w)
spurious_from (w ∷ v ∷ ws) = None

-- the numbers that these words are, behind those that came, if each is one
abbrev pub numbers_then : List ℕ → List (List ℕ) → Option (List ℕ)
numbers_then ns [] = Some ns
numbers_then ns (w ∷ ws) = option_and_then (λ n. numbers_then (ns ++ n ∷ []) ws) (number_from w)

abbrev pub numbers_from : List (List ℕ) → Option (List ℕ)
numbers_from ws = numbers_then [] ws

-- the numbers behind `clock`, at least one
abbrev pub clock_from : List (List ℕ) → Option ProgramLine
clock_from [] = None
clock_from (w ∷ ws) = option_map Clock (numbers_from (w ∷ ws))

-- a line of a script that a program has, too
abbrev pub shared_line : Line → Option ProgramLine
shared_line (script.World monitors indices split) = Some (World monitors indices split)
shared_line (script.Object name low) = Some (Object name low)
shared_line (script.Step step) = None

-- the line of a verb and the words behind it
abbrev pub line_behind : List ℕ → List (List ℕ) → Option ProgramLine
line_behind verb ws =
    if bytes_eq verb (codes "thread") then thread_from ws
    else (if bytes_eq verb (codes "call") then option_map Call (call_from ws)
    else (if bytes_eq verb (codes "clock") then clock_from ws
    else (if bytes_eq verb (codes "spurious") then spurious_from ws
    else option_and_then shared_line (line_from (verb ∷ ws)))))

abbrev pub program_line_from : List (List ℕ) → Option ProgramLine
program_line_from [] = None
program_line_from (verb ∷ ws) = line_behind verb ws

-- the line that some bytes are: words of ASCII with one space between them
unfoldable pub program_line_at : List ℕ → Option ProgramLine
program_line_at bytes = if list_all is_ascii bytes then program_line_from (words_of bytes) else None
