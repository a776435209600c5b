use Rattle.std.proofs.Common.{◌+◌, ap, ◌∙◌}
use Rattle.live_threads.proofs.Drives.{longer_by_one}
use Rattle.live_threads.proofs.opening.new_bells.Goals as goal

pub loop-preserved : goal.loop-preserved
loop-preserved c =
    let i = c.loop.invariant in
    record {
      bells = longer_by_one c.push_reserved.new.self.items c.loop.bells.items c.in_ok-bell.bell c.push_reserved.ensures.items ∙ ap (λ k. k + 1) i.bells;
      parkers = longer_by_one c.push_reserved-in-loop.new.self.items c.loop.parkers.items c.in_ok-bell.parker c.push_reserved-in-loop.ensures.items ∙ ap (λ k. k + 1) i.parkers;
      bell_room = rw c.push_reserved.ensures.capacity i.bell_room;
      parker_room = rw c.push_reserved-in-loop.ensures.capacity i.parker_room;
    }
