use Rattle.std.proofs.Common.{rules}
use Rattle.nadkhoy_c.proofs.live.nadkhoy_live_leave.Goals as goal

pub returns-in-Some-clause-status : goal.returns-in-Some-clause-status
returns-in-Some-clause-status c = search rules

pub returns-in-Some-clause-empty : goal.returns-in-Some-clause-empty
returns-in-Some-clause-empty c = search rules

pub returns-in-None-clause-status : goal.returns-in-None-clause-status
returns-in-None-clause-status c = search rules

pub returns-in-None-clause-empty : goal.returns-in-None-clause-empty
returns-in-None-clause-empty c = search rules
