-- The script that makes some choices of a program.
use Rattle.std.specs.Prelude.{ℕ, zero, suc, ◌+◌, List, [], ◌∷◌, ◌++◌, length, Option, Some, None}
use Rattle.lock_word.specs.declared.Split.{Split}
use Rattle.script_text.specs.declared.lines.Line.TheVariants.{World, Object, Step as StepOf}
use Rattle.script_text.specs.declared.lines.StepLine.{StepLine}
use Rattle.script_text.specs.declared.lines.StepLine.TheVariants as line
use Rattle.script_text.specs.Lines.{line_text}
use Rattle.step_core.specs.declared.steps.Step.{Step}
use Rattle.step_core.specs.declared.steps.Step.TheVariants as step
use Rattle.history.specs.NameLists.{NameLists, name_at}
use Rattle.dump.specs.Reports.{named_call}
use Rattle.explore.specs.declared.programs.Program.{Program}
use Rattle.explore.specs.declared.programs.Choice.{Choice}
use Rattle.explore.specs.States.{ProgramState, after, opening, step_for}

-- a step with the names of a program
abbrev pub named_step : NameLists → Step → StepLine
named_step names (step.Attach t) = line.Attach (name_at names.threads t.0)
named_step names (step.Begin t c) = line.Begin (name_at names.threads t.0) (named_call names c)
named_step names (step.Go t) = line.Go (name_at names.threads t.0)
named_step names (step.Expire t) = line.Expire (name_at names.threads t.0)
named_step names (step.Spurious t) = line.Spurious (name_at names.threads t.0)
named_step names (step.Tick now) = line.Tick now

abbrev pub step_line : NameLists → Step → List ℕ
step_line names s = line_text (StepOf (named_step names s)) ++ 10 ∷ []

abbrev pub world_line : ℕ → ℕ → Split → List ℕ
world_line monitors indices split = line_text (World monitors indices split) ++ 10 ∷ []

-- the lines of the objects from this number on, with these low bytes
abbrev pub object_lines_from : NameLists → ℕ → List ℕ → List ℕ
object_lines_from names o [] = []
object_lines_from names o (low ∷ lows) =
    (line_text (Object (name_at names.objects o) low) ++ 10 ∷ []) ++ object_lines_from names (o + 1) lows

-- the threads with the numbers below this one are attached, in their order
abbrev pub attach_lines : NameLists → ℕ → List ℕ
attach_lines names zero = []
attach_lines names (suc n) = attach_lines names n ++ step_line names (step.Attach (record { 0 = n }))

-- the line of a choice is that of the step that it means
abbrev pub choice_line : NameLists → Option Step → List ℕ
choice_line names None = []
choice_line names (Some s) = step_line names s

-- choices that are made one after the other, from a state on
abbrev pub choice_lines : NameLists → Program → Option ProgramState → List Choice → List ℕ
choice_lines names p s [] = []
choice_lines names p None (c ∷ cs) = []
choice_lines names p (Some s) (c ∷ cs) = choice_line names (step_for p s c) ++ choice_lines names p (after p s c) cs

-- The script: the world with its objects, the threads, and the choices from where the program begins.
abbrev pub script_of : NameLists → Program → List Choice → List ℕ
script_of names p cs =
    world_line p.monitors p.indices p.split
    ++ (object_lines_from names 0 p.lows.items
    ++ (attach_lines names (length p.starts.items) ++ choice_lines names p (Some (opening p)) cs))

-- how many lines it has
abbrev pub script_length : Program → List Choice → ℕ
script_length p cs = 1 + length p.lows.items + length p.starts.items + length cs
