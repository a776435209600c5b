use Rattle.std.proofs.lemmas.Grind.{common_steps}
use Rattle.std.proofs.Common.{arith}
use Rattle.explore_runs.proofs.outcomes.put_object_lines.Goals as goal

pub objects-preserved : goal.objects-preserved
objects-preserved c = grind (arith, common_steps)
