use Rattle.std.proofs.Common.{arith}
use Rattle.std.proofs.lemmas.Grind.{common_steps}
use Rattle.history.proofs.reports.put_step.Goals as goal

pub returns-in-Attach : goal.returns-in-Attach
returns-in-Attach c = grind (arith, common_steps)

pub returns-in-Begin : goal.returns-in-Begin
returns-in-Begin c = grind (arith, common_steps)

pub returns-in-Expire : goal.returns-in-Expire
returns-in-Expire c = grind (arith, common_steps)

pub returns-in-Spurious : goal.returns-in-Spurious
returns-in-Spurious c = grind (arith, common_steps)

pub returns-in-Go : goal.returns-in-Go
returns-in-Go c = grind (arith, common_steps)
