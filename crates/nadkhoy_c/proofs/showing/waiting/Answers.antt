use Rattle.std.proofs.Common.{rules}
use Rattle.nadkhoy_c.proofs.showing.waiting.Goals as goal

pub returns-then-object-objects : goal.returns-then-object-objects
returns-then-object-objects c = search rules

pub returns : goal.returns
returns c = search rules
