use Rattle.std.proofs.Common.{rules}
use Rattle.live_turns.proofs.turns.Turns.begin_on.Goals as goal

pub returns-clause-there : goal.returns-clause-there
returns-clause-there g c = search rules

pub returns-in_err-turned-clause-fault : goal.returns-in_err-turned-clause-fault
returns-in_err-turned-clause-fault g c = search rules
