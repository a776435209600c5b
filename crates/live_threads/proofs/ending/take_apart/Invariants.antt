use Rattle.std.proofs.Common.{◌≡◌, ◌≤◌, ◌+◌, ◌++◌, length, map, reverse, vec_capacity}
use Rattle.std.specs.List.{All}
use Rattle.live_threads.specs.Calls.{IsAtRest}
use Rattle.live_threads.specs.Ends.{at_rest}
use Rattle.live_threads.proofs.ending.take_apart.Given as goal

abbrev pub invariant-loop-pass : goal.invariant-loop-pass
invariant-loop-pass g l = record {
  row : map at_rest l.passes.items ++ reverse l.turns.items ≡ map at_rest l.fn.passes.items;
  rest : All IsAtRest l.turns.items;
  turns : length l.passes.items + length l.turns.items ≡ length l.fn.passes.items;
  parkers : length l.passes.items + length l.parkers.items ≡ length l.fn.passes.items;
  turns_room : length l.fn.passes.items ≤ vec_capacity l.turns;
  parkers_room : length l.fn.passes.items ≤ vec_capacity l.parkers;
  left : length l.fn.passes.items ≤ vec_capacity l.passes;
}

abbrev pub decreases-loop-pass : goal.decreases-loop-pass
decreases-loop-pass g l = length l.passes.items
