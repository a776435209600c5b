use Rattle.std.proofs.Common.{take}
use Rattle.history.specs.Histories.{Tells}
use Rattle.history.proofs.histories.tell_steps.Given as goal

abbrev pub invariant-steps : goal.invariant-steps
invariant-steps l = Tells l.fn.world (take l.request-index l.steps) l.world l.fn.history.items l.history.items
