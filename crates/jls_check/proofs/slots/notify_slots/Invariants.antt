use Rattle.std.proofs.Common.{◌≡◌, ◌++◌, take, drop}
use Rattle.std.specs.Prelude.{map as list_map}
use Rattle.jls_check.specs.Slots.{notified_slot}
use Rattle.jls_check.proofs.slots.notify_slots.Given as goal

abbrev pub invariant-loop-slot : goal.invariant-loop-slot
invariant-loop-slot l = l.slots ≡ list_map (notified_slot l.object) (take l.slot-index l.initial.slots) ++ drop l.slot-index l.initial.slots
