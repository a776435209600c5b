use Rattle.std.proofs.Common.{arith}
use Rattle.std.proofs.lemmas.Grind.{common_steps}
use Rattle.history.proofs.reports.put_ending.Goals as goal

pub returns-in-Acted : goal.returns-in-Acted
returns-in-Acted c = grind (arith, common_steps)
