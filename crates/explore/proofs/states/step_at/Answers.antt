use Rattle.std.proofs.Common.{arith}
use Rattle.std.proofs.lemmas.Grind.{elements}
use Rattle.explore.proofs.states.step_at.Goals as goal

pub returns-in_ok-call-in-Begin : goal.returns-in_ok-call-in-Begin
returns-in_ok-call-in-Begin c = grind (arith, elements)
