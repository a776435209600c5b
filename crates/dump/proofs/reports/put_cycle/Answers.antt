use Rattle.std.proofs.Common.{rules}
use Rattle.dump.proofs.reports.put_cycle.Goals as goal

pub threads-init : goal.threads-init
threads-init c = search rules
