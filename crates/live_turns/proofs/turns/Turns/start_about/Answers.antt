use Rattle.std.proofs.Common.{rules}
use Rattle.live_turns.proofs.turns.Turns.start_about.Goals as goal

pub returns-clause-point : goal.returns-clause-point
returns-clause-point g c = search rules

pub returns-clause-there : goal.returns-clause-there
returns-clause-there g c = search rules
