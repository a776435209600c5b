use Rattle.std.proofs.Common.{arith}
use Rattle.std.proofs.lemmas.Grind.{common_steps}
use Rattle.history.proofs.reports.empty_sets.Goals as goal

pub sets-preserved : goal.sets-preserved
sets-preserved c = grind (arith, common_steps)
