use Rattle.std.proofs.Common.{◌<◌, length, arith}
use Rattle.std.proofs.lemmas.List.{get_or_default}
use Rattle.std.proofs.lemmas.List.Edits.{map_over_more}
use Rattle.jls_check.specs.Slots.{notified_slot}
use Rattle.jls_check.proofs.slots.notify_slots.Goals as goal

pub loop-slot-preserved : goal.loop-slot-preserved
loop-slot-preserved c =
    let within : c.loop-slot.slot-index < length c.loop-slot.slots = omega arith in
    rw (c.notify_slot.ensures) (map_over_more (notified_slot c.args.object) c.args.slots.now c.loop-slot.slots c.loop-slot.slot-index _
    c.loop-slot-test.true c.loop-slot.invariant (get_or_default c.loop-slot.slots c.loop-slot.slot-index _ _ within))
