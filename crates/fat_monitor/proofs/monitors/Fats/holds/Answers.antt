use Rattle.std.proofs.Common.{rules}
use Rattle.fat_monitor.proofs.monitors.Fats.holds.Goals as goal

pub returns : goal.returns
returns c = search rules
