-- How many ends have come to each outcome.
use Rattle.std.specs.Prelude.{◌≡◌, ℕ, zero, suc, ◌+◌, if◌then◌else◌, List, [], ◌∷◌, ◌++◌, length, map}
use Rattle.std.specs.Prelude.{String, string_bytes, slice_index_or}
use Rattle.std.specs.declared.alloc.Global.{Global}
use Rattle.std.specs.Str.{bytes_eq}
use Rattle.history.specs.NameLists.{NameLists}
use Rattle.explore.specs.declared.programs.Program.{Program}
use Rattle.explore.specs.Found.{FoundStates, witness_at}
use Rattle.explore_runs.specs.declared.reports.WitnessForm.{WitnessForm}
use Rattle.explore_runs.specs.declared.tallies.Tally.{Tally}
use Rattle.explore_runs.specs.Reports.{AreOutcomes, end_at, outcome_part, text_at}

-- the text of an outcome, the number of the first end that has it, and how many ends have it
pub record OutcomeTally : Type 0 where
  pub text : List ℕ
  pub first : ℕ
  pub ends : ℕ

-- what an entry of a map says of an outcome
abbrev pub outcome_tally : String Global × Tally → OutcomeTally
outcome_tally e = record { text = string_bytes e.0; first = e.1.first; ends = e.1.ends }

abbrev pub outcome_tallies : List (String Global × Tally) → List OutcomeTally
outcome_tallies es = map outcome_tally es

-- one end more: it is counted for the outcome that has its text, or is the first of an outcome that goes last
abbrev pub with_end : List OutcomeTally → List ℕ → ℕ → List OutcomeTally
with_end [] text at = record { text = text; first = at; ends = 1 } ∷ []
with_end (t ∷ ts) text at =
    if bytes_eq text t.text then record t { ends = t.ends + 1 } ∷ ts else t ∷ with_end ts text at

-- the outcomes of the first ends, whose texts these are, in the order in which each comes first
abbrev pub tallied : List (List ℕ) → ℕ → List OutcomeTally
tallied texts zero = []
tallied texts (suc n) = with_end (tallied texts n) (text_at texts n) n

-- These are the outcomes of all ends.
pub record AreTallied (names : NameLists) (p : Program) (f : FoundStates) (ts : List OutcomeTally) : Type 0 where
  pub texts : List (List ℕ)
  pub outcomes : AreOutcomes names p f texts
  pub counted : ts ≡ tallied texts (length texts)

-- the outcome with a number among these
abbrev pub tally_at : List OutcomeTally → ℕ → OutcomeTally
tally_at ts i = slice_index_or ts i (record { text = []; first = 0; ends = 0 })

-- what a report says of an outcome: its number, how many ends have it, its text, and how it comes to the first of them
abbrev pub tally_part : WitnessForm → NameLists → Program → FoundStates → ℕ → OutcomeTally → List ℕ
tally_part form names p f number t =
    outcome_part form names p (witness_at f.witnesses (end_at f t.first)) number t.ends t.text

-- what it says of the first outcomes, one behind the other
abbrev pub tally_parts : WitnessForm → NameLists → Program → FoundStates → List OutcomeTally → ℕ → List ℕ
tally_parts form names p f ts zero = []
tally_parts form names p f ts (suc n) =
    tally_parts form names p f ts n ++ tally_part form names p f (n + 1) (tally_at ts n)
