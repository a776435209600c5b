use Rattle.std.proofs.Common.{rules}
use Rattle.command_line.proofs.orders.exploring_with.Goals as goal

pub returns-then-moves : goal.returns-then-moves
returns-then-moves c = search rules

pub returns-else-moves : goal.returns-else-moves
returns-else-moves c = search rules
