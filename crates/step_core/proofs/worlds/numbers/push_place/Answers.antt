use Rattle.std.proofs.Common.{rules}
use Rattle.step_core.proofs.worlds.numbers.push_place.Goals as goal

pub returns-in-AtPost-clause-written : goal.returns-in-AtPost-clause-written
returns-in-AtPost-clause-written c = search rules
