use Rattle.std.proofs.Common.{rules}
use Rattle.fat_monitor.proofs.times.are_good.Goals as goal

pub returns-then-nanos-ge0 : goal.returns-then-nanos-ge0
returns-then-nanos-ge0 c = search rules
