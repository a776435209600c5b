use Rattle.history_moves.proofs.Told.{quick_found}
use Rattle.history_moves.proofs.lines.written_line.Goals as goal

pub returns : goal.returns
returns c = quick_found _ _ c.quick_move.ensures
