use Rattle.std.proofs.Common.{rules}
use Rattle.nadkhoy_c.proofs.showing.object.Goals as goal

pub returns-then-number-objects : goal.returns-then-number-objects
returns-then-number-objects c = search rules

pub returns : goal.returns
returns c = search rules
