use Rattle.std.proofs.Common.{arith}
use Rattle.std.proofs.lemmas.Grind.{common_steps}
use Rattle.step_core.proofs.worlds.World.owner.Goals as goal

pub returns-in-Thin : goal.returns-in-Thin
returns-in-Thin c = grind (arith, common_steps)
