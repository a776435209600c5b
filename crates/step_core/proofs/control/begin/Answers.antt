use Rattle.std.proofs.Common.{rules, arith}
use Rattle.std.proofs.lemmas.Grind.{common_steps}
use Rattle.step_core.proofs.control.begin.Goals as goal

pub returns-in_default-index : goal.returns-in_default-index
returns-in_default-index c = grind (arith, common_steps)

pub returns : goal.returns
returns c = search rules
