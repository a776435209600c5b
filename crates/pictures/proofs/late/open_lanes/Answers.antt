use Rattle.std.proofs.Common.{arith}
use Rattle.pictures.proofs.Nexts.{take_next}
use Rattle.pictures.proofs.Zips.{zip_more}
use Rattle.pictures.proofs.late.open_lanes.Goals as goal

pub threads-preserved : goal.threads-preserved
threads-preserved c =
    rw (take_next c.args.threads.now c.threads.thread-index (record { 0 = 0 }) (omega arith), c.in_ok-push.ensures.items)
    (zip_more _ _ _ _ _ c.threads.invariant (rw (c.deref.ensures.value, c.deref-in-threads.ensures.value) at c.in_ok-open_lane.ensures))
