use Rattle.std.proofs.Common.{arith}
use Rattle.std.proofs.lemmas.Grind.{common_steps}
use Rattle.history.proofs.reports.put_atomic.Goals as goal

pub returns-in-Load : goal.returns-in-Load
returns-in-Load c = grind (arith, common_steps)

pub returns-in-Won : goal.returns-in-Won
returns-in-Won c = grind (arith, common_steps)

pub returns-in-Lost : goal.returns-in-Lost
returns-in-Lost c = grind (arith, common_steps)

pub returns-in-Stored : goal.returns-in-Stored
returns-in-Stored c = grind (arith, common_steps)
