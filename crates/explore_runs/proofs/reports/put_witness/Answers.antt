use Rattle.std.proofs.Common.{rules}
use Rattle.explore_runs.proofs.reports.put_witness.Goals as goal

pub returns-in-History : goal.returns-in-History
returns-in-History c = search rules

pub returns-in-Script : goal.returns-in-Script
returns-in-Script c = search rules
