use Rattle.std.proofs.Common.{rules}
use Rattle.fat_monitor.proofs.monitors.numbers.owner_number.Goals as goal

pub returns-in-Some : goal.returns-in-Some
returns-in-Some c = search rules
