use Rattle.std.proofs.Common.{rules}
use Rattle.history_moves.proofs.lines.MoveReader.line_move.Goals as goal

pub returns-clause-none : goal.returns-clause-none
returns-clause-none c = search rules
