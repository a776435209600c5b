use Rattle.std.proofs.Common.{rules}
use Rattle.history_moves.proofs.pieces.is_end.Goals as goal

pub returns : goal.returns
returns c = search rules
