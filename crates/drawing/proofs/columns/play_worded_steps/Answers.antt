use Rattle.std.proofs.Common.{arith}
use Rattle.drawing.proofs.ColumnLists.{told_next}
use Rattle.drawing.proofs.columns.play_worded_steps.Goals as goal

pub steps-preserved : goal.steps-preserved
steps-preserved c = record {
  told = rw (c.in_ok-push.ensures.items, c.in_ok-push-2.ensures.items)
      (told_next _ _ _ _ _ _ _ _ _ _ _ (omega arith) c.steps.invariant.told c.in_ok-column_of.ensures c.in_ok-words_of.ensures);
}
