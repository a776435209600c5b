use Rattle.std.proofs.Common.{arith}
use Rattle.std.proofs.lemmas.Grind.{common_steps}
use Rattle.explore.proofs.programs.are_in_order.Goals as goal

pub starts-preserved : goal.starts-preserved
starts-preserved c = grind (arith, common_steps)
