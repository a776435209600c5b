use Rattle.std.proofs.Common.{arith}
use Rattle.std.proofs.lemmas.Grind.{common_steps}
use Rattle.history.proofs.plans.plan_of.Goals as goal

pub take_lines-requires-clause-follow : goal.take_lines-requires-clause-follow
take_lines-requires-clause-follow c = grind (arith, common_steps)

pub returns-clause-objects : goal.returns-clause-objects
returns-clause-objects c = grind (arith, common_steps)

pub returns-clause-lows : goal.returns-clause-lows
returns-clause-lows c = grind (arith, common_steps)

pub returns-clause-names : goal.returns-clause-names
returns-clause-names c = grind (arith, common_steps)

pub returns-clause-steps : goal.returns-clause-steps
returns-clause-steps c = grind (arith, common_steps)
