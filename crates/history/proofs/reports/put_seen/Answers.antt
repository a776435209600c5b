use Rattle.std.proofs.Common.{rules}
use Rattle.history.proofs.reports.put_seen.Goals as goal

pub returns : goal.returns
returns c = search rules
