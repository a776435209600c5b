use Rattle.std.proofs.Common.{rules}
use Rattle.live_turns.proofs.desks.Desk.end.Goals as goal

pub returns-then-not-agree-clause-other : goal.returns-then-not-agree-clause-other
returns-then-not-agree-clause-other g c = search rules

pub returns-clause-end : goal.returns-clause-end
returns-clause-end g c = search rules
