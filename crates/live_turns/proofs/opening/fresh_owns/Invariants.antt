use Rattle.std.proofs.Common.{◌≡◌, ◌≤◌, ◌+◌, vec_len, vec_capacity}
use Rattle.live_turns.proofs.opening.fresh_owns.Given as goal

abbrev pub invariant-loop : goal.invariant-loop
invariant-loop g l = record {
  parts : l.rest.parts + l.counter ≡ l.fn.count;
  none : l.rest.amount ≡ 0;
  len : vec_len l.owns ≡ l.counter;
  room : l.fn.count ≤ vec_capacity l.owns;
}
