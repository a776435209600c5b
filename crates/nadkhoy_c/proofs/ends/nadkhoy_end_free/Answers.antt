use Rattle.std.proofs.Common.{rules}
use Rattle.nadkhoy_c.proofs.ends.nadkhoy_end_free.Goals as goal

pub returns-clause-status : goal.returns-clause-status
returns-clause-status c = search rules

pub returns-clause-empty : goal.returns-clause-empty
returns-clause-empty c = search rules
