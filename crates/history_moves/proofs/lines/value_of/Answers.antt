use Rattle.std.proofs.Common.{rules}
use Rattle.history_moves.proofs.lines.value_of.Goals as goal

pub returns-then-is_memory-clause-none : goal.returns-then-is_memory-clause-none
returns-then-is_memory-clause-none c = search rules
