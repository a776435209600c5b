use Rattle.std.proofs.Common.{◌≡◌, ◌≤◌, ◌+◌, ◌++◌, length, map, reverse, vec_capacity}
use Rattle.std.specs.List.{All}
use Rattle.live_turns.specs.Ways.{PassState}
use Rattle.live_threads.specs.Calls.{IsAtRest}
use Rattle.live_threads.proofs.opening.with_parkers.Given as goal

abbrev pub invariant-loop-turns : goal.invariant-loop-turns
invariant-loop-turns g l = record {
  len : length l.turns.items ≡ length l.parkers.items;
  room : length l.turns.items + length l.passes.items ≤ vec_capacity l.passes;
  rest : All IsAtRest l.turns.items;
  row : map (λ (p : PassState). p.holding) l.turns.items ++ reverse l.passes.items ≡ map (λ (p : PassState). p.holding) l.fn.turns.items;
}

abbrev pub decreases-loop-turns : goal.decreases-loop-turns
decreases-loop-turns g l = length l.turns.items
