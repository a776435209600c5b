use Rattle.std.proofs.Common.{◌≡◌, ◌++◌, ◌<◌, ◌^◌, decimal, length}
use Rattle.history_moves.proofs.pieces.number_in.Given as goal

abbrev pub invariant-digits : goal.invariant-digits
invariant-digits l = record {
  text : l.bytes ≡ decimal l.number ++ l.rest;
  some : 0 < l.number;
  small : l.number < 2 ^ 64;
}

abbrev pub decreases-digits : goal.decreases-digits
decreases-digits l = length l.rest
