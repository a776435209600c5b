use Rattle.std.proofs.Common.{◌≡◌, length}
use Rattle.std.specs.Str.{bytes_eq}
use Rattle.history_moves.proofs.pieces.comparing.same_bytes.Given as goal

abbrev pub invariant-eights : goal.invariant-eights
invariant-eights l = bytes_eq l.bytes l.others ≡ bytes_eq l.left l.right

abbrev pub decreases-eights : goal.decreases-eights
decreases-eights l = length l.left
