use Rattle.std.proofs.Common.{rules}
use Rattle.fat_monitor.proofs.monitors.numbers.push_record.Goals as goal

pub returns-in-Waiting-default-default-Some : goal.returns-in-Waiting-default-default-Some
returns-in-Waiting-default-default-Some c = search rules
