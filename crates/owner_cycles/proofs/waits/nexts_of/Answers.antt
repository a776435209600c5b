use Rattle.std.proofs.Common.{arith}
use Rattle.std.proofs.lemmas.Grind.{common_steps}
use Rattle.owner_cycles.proofs.waits.nexts_of.Goals as goal

pub threads-preserved : goal.threads-preserved
threads-preserved c = grind (arith, common_steps)
