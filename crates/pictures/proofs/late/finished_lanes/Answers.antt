use Rattle.pictures.proofs.Zips.{zip_more}
use Rattle.pictures.proofs.late.finished_lanes.Goals as goal

pub lanes-preserved : goal.lanes-preserved
lanes-preserved c = rw c.in_ok-push.ensures.items (zip_more _ _ _ _ _ c.lanes.invariant c.in_ok-finished_lane.ensures)
