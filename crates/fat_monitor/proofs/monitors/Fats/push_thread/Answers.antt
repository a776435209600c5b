use Rattle.std.proofs.Common.{rules}
use Rattle.fat_monitor.proofs.monitors.Fats.push_thread.Goals as goal

pub returns-clause-written : goal.returns-clause-written
returns-clause-written c = search rules
