use Rattle.std.proofs.Common.{arith}
use Rattle.std.proofs.lemmas.Grind.{common_steps}
use Rattle.picture_text.specs.Axis.{cycle_parts}
use Rattle.picture_text.proofs.cycles.put_cycle.Goals as goal

pub returns : goal.returns
unfolding cycle_parts
returns c = grind (arith, common_steps)
