use Rattle.std.proofs.Common.{◌≡◌, ◌≤◌, ◌+◌, ◌++◌, length, map, vec_capacity}
use Rattle.std.specs.Prelude.{reverse}
use Rattle.live_turns.specs.Ends.{words_of}
use Rattle.live_turns.proofs.ending.take_apart.Given as goal

abbrev pub invariant-loop-pass : goal.invariant-loop-pass
invariant-loop-pass g l = record {
  row : map words_of l.passes.items ++ reverse l.words.items ≡ map words_of l.fn.passes.items;
  others : l.passes.items ++ reverse l.rests.items ≡ l.fn.passes.items;
  words : length l.passes.items + length l.words.items ≡ length l.fn.passes.items;
  rests : length l.passes.items + length l.rests.items ≡ length l.fn.passes.items;
  words_room : length l.fn.passes.items ≤ vec_capacity l.words;
  rests_room : length l.fn.passes.items ≤ vec_capacity l.rests;
  room : length l.fn.passes.items ≤ vec_capacity l.passes;
}

abbrev pub decreases-loop-pass : goal.decreases-loop-pass
decreases-loop-pass g l = length l.passes.items
