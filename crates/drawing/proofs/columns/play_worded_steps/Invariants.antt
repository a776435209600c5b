use Rattle.std.proofs.Common.{take}
use Rattle.drawing.proofs.ColumnLists.{AreTold}
use Rattle.drawing.proofs.columns.play_worded_steps.Given as goal

abbrev pub invariant-steps : goal.invariant-steps
invariant-steps l = record {
  told : AreTold l.drawn l.fn.world (take l.request-index l.steps) l.world l.columns.items l.words.items;
}
