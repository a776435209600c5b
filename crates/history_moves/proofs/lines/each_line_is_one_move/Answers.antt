use Rattle.history_moves.proofs.LineLaws.{one_line_move, one_line_first}
use Rattle.history_moves.proofs.lines.each_line_is_one_move.Goals as goal

pub returns : goal.returns
returns c = record { moves = one_line_move; objects = one_line_first }
