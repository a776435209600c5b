use Rattle.std.proofs.Common.{arith}
use Rattle.std.proofs.lemmas.Grind.{common_steps}
use Rattle.live_scripts.proofs.rules.may_do.Goals as goal

pub returns-then-threads-from : goal.returns-then-threads-from
returns-then-threads-from c = grind (arith, common_steps)
