use Rattle.std.proofs.Common.{rules}
use Rattle.command_line.proofs.orders.is_set.Goals as goal

pub returns-in-Some : goal.returns-in-Some
returns-in-Some c = search rules
