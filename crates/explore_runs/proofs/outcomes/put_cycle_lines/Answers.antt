use Rattle.std.proofs.Common.{arith}
use Rattle.std.proofs.lemmas.Grind.{common_steps}
use Rattle.explore_runs.proofs.outcomes.put_cycle_lines.Goals as goal

pub cycles-preserved : goal.cycles-preserved
cycles-preserved c = grind (arith, common_steps)
