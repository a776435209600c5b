use Rattle.std.proofs.Common.{rules}
use Rattle.history_moves.proofs.pieces.comparing.same_bytes.Goals as goal

pub eights-preserved : goal.eights-preserved
eights-preserved c = search rules
