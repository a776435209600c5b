use Rattle.std.proofs.Common.{rules}
use Rattle.nadkhoy_c.proofs.changing.relayout.Goals as goal

pub returns-in-Ok-clause-exact : goal.returns-in-Ok-clause-exact
returns-in-Ok-clause-exact c = search rules
