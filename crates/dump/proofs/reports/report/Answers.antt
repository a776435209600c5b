use Rattle.std.proofs.Common.{rules}
use Rattle.dump.proofs.reports.report.Goals as goal

pub returns : goal.returns
returns c = search rules
