use Rattle.std.proofs.Common.{rules}
use Rattle.fat_monitor.proofs.monitors.Fats.bound.Goals as goal

pub returns-clause-value : goal.returns-clause-value
returns-clause-value c = search rules
