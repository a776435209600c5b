use Rattle.std.proofs.Common.{rules}
use Rattle.nadkhoy_c.proofs.status.Status.number.Goals as goal

pub returns-in-Closed : goal.returns-in-Closed
returns-in-Closed c = search rules
