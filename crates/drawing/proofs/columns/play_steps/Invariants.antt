use Rattle.std.proofs.Common.{take}
use Rattle.drawing.specs.Columns.{AreColumns}
use Rattle.drawing.proofs.columns.play_steps.Given as goal

abbrev pub invariant-steps : goal.invariant-steps
invariant-steps l = AreColumns l.fn.world (take l.request-index l.steps) l.world l.columns.items
