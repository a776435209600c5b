-- The report of a program that was explored.
use Rattle.std.specs.Prelude.{◌≡◌, ℕ, zero, suc, ◌+◌, ◌<◌, Bool, false, not, ◌||◌}
use Rattle.std.specs.Prelude.{if◌then◌else◌, List, [], ◌∷◌, ◌++◌, length}
use Rattle.std.specs.Prelude.{codes, decimal, slice_index_or}
use Rattle.std.specs.Str.{bytes_eq}
use Rattle.step_core.specs.declared.machine.Move.{Move}
use Rattle.history.specs.Histories.{moves_text, objects_text}
use Rattle.history.specs.NameLists.{NameLists}
use Rattle.explore.specs.declared.programs.Program.{Program}
use Rattle.explore.specs.declared.programs.Choice.{Choice}
use Rattle.explore.specs.Found.{FoundStates, IsAt, witness_at}
use Rattle.explore.specs.States.{ProgramState}
use Rattle.explore_runs.specs.Outcomes.{IsOutcome}
use Rattle.explore_runs.specs.declared.reports.WitnessForm.{WitnessForm}
use Rattle.explore_runs.specs.declared.reports.WitnessForm.TheVariants as form
use Rattle.explore_runs.specs.Scripts.{script_length, script_of}
use Rattle.explore_runs.specs.Steps.{script_moves}

-- the end with a number among the ends, and the text of one
abbrev pub end_at : FoundStates → ℕ → ℕ
end_at f i = slice_index_or f.ends i 0

abbrev pub text_at : List (List ℕ) → ℕ → List ℕ
text_at texts i = slice_index_or texts i []

-- the end with a number among the ends is of a state with this text
abbrev pub EndsAs : NameLists → Program → FoundStates → ℕ → List ℕ → Type 0
EndsAs names p f i text = (s : ProgramState) × IsAt p f.witnesses (end_at f i) s × IsOutcome names p s text

-- These are the texts of the ends, in their order.
pub record AreOutcomes (names : NameLists) (p : Program) (f : FoundStates) (texts : List (List ℕ)) : Type 0 where
  pub long : length texts ≡ length f.ends
  pub each : (i : ℕ) → i < length f.ends → EndsAs names p f i (text_at texts i)

-- one of the first texts is this one
abbrev pub is_among : List (List ℕ) → List ℕ → ℕ → Bool
is_among texts text zero = false
is_among texts text (suc n) = is_among texts text n || bytes_eq (text_at texts n) text

-- no text before this one is the same
abbrev pub is_first : List (List ℕ) → ℕ → Bool
is_first texts i = not (is_among texts (text_at texts i) i)

-- how many of the first texts are this one
abbrev pub times_among : List (List ℕ) → List ℕ → ℕ → ℕ
times_among texts text zero = 0
times_among texts text (suc n) = times_among texts text n + (if bytes_eq (text_at texts n) text then 1 else 0)

-- how many texts are the same as this one
abbrev pub times : List (List ℕ) → ℕ → ℕ
times texts i = times_among texts (text_at texts i) (length texts)

-- how many different texts there are among the first
abbrev pub outcomes_among : List (List ℕ) → ℕ → ℕ
outcomes_among texts zero = 0
outcomes_among texts (suc n) = outcomes_among texts n + (if is_first texts n then 1 else 0)

-- the script that leads to a state, behind a line that says how many lines it has
abbrev pub script_part : NameLists → Program → List Choice → List ℕ
script_part names p cs = codes "script " ++ decimal (script_length p cs) ++ 10 ∷ script_of names p cs

-- the history of some moves, among so many objects, behind a line that says how many lines it has
abbrev pub history_text : ℕ → List Move → List ℕ
history_text objects ms =
    codes "history " ++ decimal (1 + length ms) ++ 10 ∷ (objects_text objects ++ moves_text ms)

-- the history of the moves that this script hands out
abbrev pub history_part : Program → List Choice → List ℕ
history_part p cs = history_text (length p.lows.items) (script_moves p cs)

-- how it comes to a state, in this form
abbrev pub witness_part : WitnessForm → NameLists → Program → List Choice → List ℕ
witness_part form.Script names p cs = script_part names p cs
witness_part form.History names p cs = history_part p cs

-- an outcome: its number, how many states end so, what has come of threads and objects, and how it comes to that
abbrev pub outcome_part : WitnessForm → NameLists → Program → List Choice → ℕ → ℕ → List ℕ → List ℕ
outcome_part form names p cs number ends text =
    codes "outcome " ++ decimal number ++ codes " ends " ++ decimal ends ++ 10 ∷ (text ++ witness_part form names p cs)

-- each outcome stands where it comes first, with the script or history of the first state that ends so
abbrev pub part_at : WitnessForm → NameLists → Program → FoundStates → List (List ℕ) → ℕ → List ℕ
part_at form names p f texts i =
    if is_first texts i
    then outcome_part form names p (witness_at f.witnesses (end_at f i)) (outcomes_among texts i + 1) (times texts i)
    (text_at texts i)
    else []

abbrev pub outcome_parts : WitnessForm → NameLists → Program → FoundStates → List (List ℕ) → ℕ → List ℕ
outcome_parts form names p f texts zero = []
outcome_parts form names p f texts (suc n) =
    outcome_parts form names p f texts n ++ part_at form names p f texts n

-- how many states and steps there are
abbrev pub counts_part : ℕ → ℕ → List ℕ
counts_part states steps = codes "states " ++ decimal states ++ codes " steps " ++ decimal steps ++ 10 ∷ []

-- A line that counts states and steps, and then each outcome once, in the order in which it was found.
pub record IsReport (form : WitnessForm) (names : NameLists) (p : Program) (f : FoundStates)
    (text : List ℕ) : Type 0 where
  pub texts : List (List ℕ)
  pub outcomes : AreOutcomes names p f texts
  pub says : text ≡ counts_part (length f.witnesses) f.steps ++ outcome_parts form names p f texts (length f.ends)
