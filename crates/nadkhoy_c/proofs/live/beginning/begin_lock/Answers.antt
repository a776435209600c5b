use Rattle.std.proofs.Common.{rules}
use Rattle.nadkhoy_c.proofs.live.beginning.begin_lock.Goals as goal

pub returns-in-GoesOn : goal.returns-in-GoesOn
returns-in-GoesOn c = search rules

pub returns : goal.returns
returns c = search rules
