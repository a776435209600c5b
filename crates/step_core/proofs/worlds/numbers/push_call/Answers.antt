use Rattle.std.proofs.Common.{rules}
use Rattle.step_core.proofs.worlds.numbers.push_call.Goals as goal

pub returns-in-Wait-clause-written : goal.returns-in-Wait-clause-written
returns-in-Wait-clause-written c = search rules
