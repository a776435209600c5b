-- What the words of the command line order.
use Rattle.std.specs.Prelude.{ℕ, List, Bool, true, false, Option, Some, None, codes, if◌then◌else◌}
use Rattle.std.specs.Prelude.{option_map, unwrap_or}
use Rattle.std.specs.Str.{bytes_eq}
use Rattle.std.specs.Option.{option_and_then, option_map_or}
use Rattle.std.specs.Str.Parse.{digits_value, without_leading_plus}
use Rattle.clap.specs.Walk.{Row, Rule, Text, first_of}
use Rattle.clap.specs.Simple.{App, new_app, new_rule, on_top, subcommand_of, with_rule, with_subcommand}
use Rattle.clap.specs.ValueTests.{is_unsigned_in}
use Rattle.clap.specs.declared.builder.action.ArgAction.TheVariants.{Set, SetTrue}
use Rattle.clap.specs.declared.builder.value_parser.ValueParser.TheVariants.{Unsigned}
use Rattle.drawing.specs.declared.windows.Window.{Window}
use Rattle.explore_runs.specs.declared.reports.WitnessForm.TheVariants.{History, Script}
use Rattle.command_line.specs.declared.orders.Task.{Task}
use Rattle.command_line.specs.declared.orders.Task.TheVariants.{Run, Moves, Check, Dump, Live, Explore}
use Rattle.command_line.specs.declared.orders.Task.TheVariants.{ExploreJava, Draw, DrawMoves}

-- ---- the program, as far as it is read from words

-- the name of a file
abbrev pub file_rule : Rule
file_rule = record (new_rule (codes "file")) { action = Some Set; value_names = 1 }

-- the flag `--moves`
abbrev pub moves_rule : Rule
moves_rule = record (new_rule (codes "moves")) { long = Some (codes "moves"); action = Some SetTrue }

-- the flag `--any`
abbrev pub any_rule : Rule
any_rule = record (new_rule (codes "any")) { long = Some (codes "any"); action = Some SetTrue }

-- an option that tells a number of 32 bits, from 1 on
abbrev pub count_rule : Text → Rule
count_rule id =
    record (new_rule id) {
      long = Some id;
      action = Some Set;
      value_names = 1;
      parser = Some (Unsigned 1 4294967295);
    }

-- a subcommand of a file alone
abbrev pub file_words : Text → App
file_words name = with_rule (new_app name) file_rule

-- a subcommand of a file, with the flag `--moves`
abbrev pub moves_words : Text → App
moves_words name = with_rule (with_rule (new_app name) moves_rule) file_rule

-- the subcommand that explores, and the one that draws
abbrev pub explore_words : App
explore_words =
    with_rule (with_rule (with_rule (with_rule (new_app (codes "explore"))
    (count_rule (codes "states"))) any_rule) moves_rule) file_rule

abbrev pub draw_words : App
draw_words =
    with_rule (with_rule (with_rule (with_rule (new_app (codes "draw"))
    (count_rule (codes "from"))) (count_rule (codes "to"))) moves_rule) file_rule

-- It has a version, its words begin behind its name, and it wants a subcommand.
abbrev pub bare_program : App
bare_program =
    on_top (λ s. record s { has_version = true; no_binary_name = true; subcommand_required = true })
    (new_app (codes "thinmon"))

abbrev pub program_words : App
program_words =
    with_subcommand (with_subcommand (with_subcommand (with_subcommand (with_subcommand (with_subcommand bare_program
    (moves_words (codes "run")).top)
    (file_words (codes "check")).top)
    (file_words (codes "dump")).top)
    (file_words (codes "live")).top)
    explore_words.top)
    draw_words.top

-- ---- what they order

-- the most states of a program that is explored, where the words tell no other number
abbrev pub most_states : ℕ
most_states = 10000000

-- outcomes come with scripts, or with `--moves` with histories
abbrev pub core_exploring : Bool → ℕ → Task
core_exploring moves most = Explore (record { most = most; witness = if moves then History else Script })

-- with `--any` they are those of the Java machine itself, which come with histories
abbrev pub exploring_with : Bool → Bool → Option ℕ → Task
exploring_with any moves states =
    if any then ExploreJava (unwrap_or states most_states) else core_exploring moves (unwrap_or states most_states)

-- a script is drawn, or with `--moves` a history: from one column to another, or all that there are
abbrev pub window_of : Option ℕ → Option ℕ → Window
window_of from to = record { first = unwrap_or from 1; last = to }

abbrev pub drawing_with : Bool → Option ℕ → Option ℕ → Task
drawing_with moves from to = if moves then DrawMoves (window_of from to) else Draw (window_of from to)

-- the task of a subcommand, with `--any` and `--moves` or without, and with the numbers that were told
abbrev pub task_of : Text → Bool → Bool → Option ℕ → Option ℕ → Option ℕ → Task
task_of name any moves states from to =
    if bytes_eq name (codes "check") then Check
    else (if bytes_eq name (codes "dump") then Dump
    else (if bytes_eq name (codes "live") then Live
    else (if bytes_eq name (codes "explore") then exploring_with any moves states
    else (if bytes_eq name (codes "draw") then drawing_with moves from to
    else (if moves then Moves else Run)))))

-- the text of a flag that was given
abbrev pub is_set : Option Text → Bool
is_set value = option_map_or (λ text. bytes_eq text (codes "true")) value false

-- the number of 32 bits that a text writes in decimal digits, with a plus in front or without
abbrev pub count_of : Text → Option ℕ
count_of text =
    if is_unsigned_in 0 4294967295 text then Some (digits_value 10 (without_leading_plus text)) else None

abbrev pub count_in : Option Text → Option ℕ
count_in value = option_and_then count_of value

-- the number that was told for an option
abbrev pub count_told : Text → List Row → Option ℕ
count_told id rows = count_in (first_of id rows)

-- the task and the file of a subcommand, of which these matches were read
abbrev pub order_of : Text → List Row → Task × Option Text
order_of name rows = (
  task_of name (is_set (first_of (codes "any") rows)) (is_set (first_of (codes "moves") rows))
      (count_told (codes "states") rows) (count_told (codes "from") rows) (count_told (codes "to") rows),
  first_of (codes "file") rows,
)

-- the task and the file that the words behind the program's name order, if they are an order
abbrev pub order_in : List Text → Option (Task × Option Text)
order_in words = option_map (λ p. order_of p.0 p.1) (subcommand_of program_words words)
