use Rattle.std.proofs.Common.{arith}
use Rattle.drawing.proofs.ColumnLists.{AreColumns-next}
use Rattle.drawing.proofs.columns.play_steps.Goals as goal

pub steps-preserved : goal.steps-preserved
steps-preserved c =
    rw c.in_ok-push.ensures.items (AreColumns-next _ _ _ _ _ _ _ _ (omega arith) c.steps.invariant c.in_ok-column_of.ensures)
