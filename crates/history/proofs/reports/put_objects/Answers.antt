use Rattle.std.proofs.lemmas.Grind.{common_steps}
use Rattle.std.proofs.Common.{arith}
use Rattle.history.proofs.reports.put_objects.Goals as goal

pub objects-preserved : goal.objects-preserved
objects-preserved c = grind (arith, common_steps)
