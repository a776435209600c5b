use Rattle.std.proofs.Common.{arith}
use Rattle.history_moves.proofs.Digits.{next_digit}
use Rattle.history_moves.proofs.pieces.number_in.Goals as goal

pub digits-preserved : goal.digits-preserved
digits-preserved c = record {
  text = next_digit _ _ _ _ _ _ c.digits.invariant.text c.in-Some.ensures.digit c.digits.invariant.some c.in_ok-number.ensures.longer c.in_ok-number.ensures.small c.in-Some.ensures.small;
  some = omega (arith, c.in_ok-number.ensures.longer, c.digits.invariant.some);
  small = c.in_ok-number.ensures.small;
}
