use Rattle.std.proofs.Common.{◌≡◌, length}
use Rattle.std.specs.Str.{bytes_eq}
use Rattle.history_moves.proofs.pieces.comparing.same_by_one.Given as goal

abbrev pub invariant-ones : goal.invariant-ones
invariant-ones l = bytes_eq l.bytes l.others ≡ bytes_eq l.left l.right

abbrev pub decreases-ones : goal.decreases-ones
decreases-ones l = length l.left
