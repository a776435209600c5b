use Rattle.std.proofs.Common.{rules}
use Rattle.jls_check.proofs.monitors.count_waits.Goals as goal

pub returns-in-Waits : goal.returns-in-Waits
returns-in-Waits c = search rules

pub returns-in_default-act : goal.returns-in_default-act
returns-in_default-act c = search rules
