use Rattle.std.proofs.Common.{◌≡◌, ◌≤◌, ◌+◌, ◌++◌, length, map, vec_capacity}
use Rattle.std.specs.Prelude.{reverse}
use Rattle.live_turns.specs.Ends.{words_of}
use Rattle.live_turns.proofs.ending.put_together.Given as goal

abbrev pub invariant-loop-rest : goal.invariant-loop-rest
invariant-loop-rest g l = record {
  same : l.words.items ≡ map words_of l.rests.items;
  done : l.rests.items ++ reverse l.passes.items ≡ l.fn.rests.items;
  count : length l.rests.items + length l.passes.items ≡ length l.fn.rests.items;
  room : length l.fn.rests.items ≤ vec_capacity l.passes;
}

abbrev pub decreases-loop-rest : goal.decreases-loop-rest
decreases-loop-rest g l = length l.rests.items
