-- The records of live threads: what slots and positions show.
use Rattle.std.specs.Prelude.{◌≡◌, ℕ, false, List, Option, Some, None, slice_get, map as list_map}
use Rattle.std.specs.Map.{lookup}
use Rattle.std.specs.BTreeMap.{is_at}
use Rattle.std.specs.Ordering.{nat_cmp}
use Rattle.std.specs.FinMap as map
use Rattle.lock_word.specs.declared.ObjectId.{ObjectId}
use Rattle.step_core.specs.declared.machine.Doing.TheVariants.{Idle}
use Rattle.jls_check.specs.declared.threads.ThreadRecord.{ThreadRecord}
use Rattle.jls_check.specs.declared.slots.Slot.{Slot}
use Rattle.jls_check.specs.LiveThreads.{LiveThreads, notified_record}

-- the record in a slot; this one, where there is none
abbrev pub record_in : Option Slot → ThreadRecord
record_in None = record { live = record { flag = false; act = Idle }; owned = 0 }
record_in (Some s) = s.kept

-- the record of each thread whose number has a position, by the number
abbrev pub records_in : List Slot → List (ℕ × ℕ) → LiveThreads
records_in slots positions = map.from_entries (list_map (λ e. (e.0, record_in (slice_get slots e.1))) positions)

-- the slot at this position is that of the number
abbrev pub LeadsTo : List Slot → ℕ → ℕ → Type 0
LeadsTo slots t k = (s : Slot) × (slice_get slots k ≡ Some s) × (s.number ≡ t)

-- each position is that of its number's slot
abbrev pub LeadToSlots : List Slot → List (ℕ × ℕ) → Type 0
LeadToSlots slots positions = (t k : ℕ) → lookup (is_at (nat_cmp t)) positions ≡ Some k → LeadsTo slots t k

-- each slot's number has the slot's position
abbrev pub HavePositions : List Slot → List (ℕ × ℕ) → Type 0
HavePositions slots positions = (k : ℕ) (s : Slot) → slice_get slots k ≡ Some s → lookup (is_at (nat_cmp s.number)) positions ≡ Some k

-- a slot, once all have been taken out of the wait set of o
abbrev pub notified_slot : ObjectId → Slot → Slot
notified_slot o s = record { number = s.number; kept = notified_record o s.kept }
