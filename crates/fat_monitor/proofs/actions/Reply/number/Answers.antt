use Rattle.std.proofs.Common.{rules}
use Rattle.fat_monitor.proofs.actions.Reply.number.Goals as goal

pub returns-in-Yes : goal.returns-in-Yes
returns-in-Yes c = search rules
