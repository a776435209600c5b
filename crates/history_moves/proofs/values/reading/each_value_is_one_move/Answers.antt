use Rattle.history_moves.proofs.MoveLaws.{one_move, one_first}
use Rattle.history_moves.proofs.values.reading.each_value_is_one_move.Goals as goal

pub returns : goal.returns
returns c = record { moves = one_move; objects = one_first }
