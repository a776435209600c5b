-- What the calls that change a world answer and leave.
use Rattle.std.specs.Prelude.{ℕ, Bool, ◌||◌, nat_lt, List, length, if◌then◌else◌, Option, Some, None, Ok, Err}
use Rattle.lock_word.specs.declared.Split.{Split}
use Rattle.lock_word.specs.Layout.{greatest_index}
use Rattle.step_core.specs.World.{WorldState, opening_world}
use Rattle.step_core.specs.Names.{fault_number, relayout_fault_number}
use Rattle.step_core.specs.declared.steps.Step.{Step}
use Rattle.step_core.specs.Step as core
use Rattle.step_core.specs.Relayout.{AfterRelayout, after_relayout}
use Rattle.nadkhoy_c.specs.declared.plain.PlainStep.{PlainStep}
use Rattle.nadkhoy_c.specs.declared.plain.PlainDid.{PlainDid}
use Rattle.nadkhoy_c.specs.declared.status.Status.{Status}
use Rattle.nadkhoy_c.specs.declared.status.Status.TheVariants as status
use Rattle.nadkhoy_c.specs.Statuses.{status_number}
use Rattle.nadkhoy_c.specs.Reading.{step_from_numbers, split_of}
use Rattle.nadkhoy_c.specs.Writing.{plain_did}

-- the status, the world in the slot, and what stands where the call writes
pub record AfterCall (X : Type 0) : Type 0 where
  pub answer : ℕ
  pub world : Option WorldState
  pub out : X

-- the call is refused for a mistake of the caller
abbrev pub refused : {X : Type 0} → Status → Option WorldState → X → AfterCall X
refused s w x = record { answer = status_number s; world = w; out = x }

-- an accepted step writes what it did, and a refused one writes nothing
abbrev pub call_after_step : PlainDid → core.AfterStep → AfterCall PlainDid
call_after_step x a = elim a.answer [
  | Ok d ↦ record { answer = 0; world = Some a.after; out = plain_did d }
  | Err f ↦ record { answer = fault_number f; world = Some a.after; out = x }
]

abbrev pub step_as : Bool → WorldState → Option Step → PlainDid → AfterCall PlainDid
step_as room w None x = refused status.NoStep (Some w) x
step_as room w (Some s) x = call_after_step x (core.step_of room w s)

-- a step of the world in the slot; room is whether memory is granted
abbrev pub after_step : Bool → Option WorldState → PlainStep → PlainDid → AfterCall PlainDid
after_step room None p x = refused status.Closed None x
after_step room (Some w) p x = step_as room w (step_from_numbers p) x

abbrev pub call_after_relayout : ℕ → AfterRelayout → AfterCall ℕ
call_after_relayout x a = elim a.answer [
  | Ok n ↦ record { answer = 0; world = Some a.after; out = n }
  | Err f ↦ record { answer = relayout_fault_number f; world = Some a.after; out = x }
]

abbrev pub relayout_as : Bool → WorldState → Option Split → ℕ → AfterCall ℕ
relayout_as room w None x = refused status.NoSplit (Some w) x
relayout_as room w (Some s) x = call_after_relayout x (after_relayout room w s)

-- a relayout of the world in the slot
abbrev pub after_relayout_call : Bool → Option WorldState → ℕ → ℕ → AfterCall ℕ
after_relayout_call room None n x = refused status.Closed None x
after_relayout_call room (Some w) n x = relayout_as room w (split_of n) x

-- what an opening answers, and the world in the slot then
pub record Opened : Type 0 where
  pub answer : ℕ
  pub world : Option WorldState

abbrev pub unopened : Status → Option WorldState → Opened
unopened s w = record { answer = status_number s; world = w }

-- the sizes are more than a world can have
abbrev pub is_too_large : ℕ → ℕ → ℕ → Split → Bool
is_too_large objects monitors indices s =
    nat_lt 65535 objects || (nat_lt 8388608 monitors
    || (nat_lt indices 1 || nat_lt (greatest_index s) indices))

abbrev pub open_as : Bool → List ℕ → ℕ → ℕ → Option Split → Opened
open_as room lows monitors indices None = unopened status.NoSplit None
open_as room lows monitors indices (Some s) =
    if is_too_large (length lows) monitors indices s then unopened status.Range None
    else (if room then record { answer = 0; world = Some (opening_world lows monitors indices s) }
    else unopened status.Memory None)

abbrev pub after_open : Bool → Option WorldState → List ℕ → ℕ → ℕ → ℕ → Opened
after_open room (Some w) lows monitors indices split = unopened status.InUse (Some w)
after_open room None lows monitors indices split =
    open_as room lows monitors indices (split_of split)

-- a world that is freed leaves the slot empty
abbrev pub free_status : Option WorldState → ℕ
free_status None = status_number status.Closed
free_status (Some w) = 0
