use Rattle.std.proofs.Common.{◌≡◌, ◌≤◌, ◌+◌, ◌++◌, All, List, vec_len, vec_capacity, false}
use Rattle.live_turns.specs.Ways.{PassState, Belongs}
use Rattle.live_seats.proofs.house.take_from.Given as goal

abbrev pub invariant-loop-hook : goal.invariant-loop-hook
invariant-loop-hook g l = record {
  more : (more : List PassState) × (l.passes.items ≡ l.fn.passes.items ++ more)
      × All (λ (p : PassState). Belongs l.turns false p.holding) more;
  len : vec_len l.passes ≤ vec_len l.fn.passes + l.hook-index;
  room : vec_capacity l.passes ≡ vec_capacity l.fn.passes;
}
