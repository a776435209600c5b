use Rattle.std.proofs.Common.{◌≡◌, ◌≤◌, ◌+◌, ◌++◌, length, map, reverse, vec_len, vec_capacity}
use Rattle.live_turns.specs.Ways.{new_state}
use Rattle.live_turns.proofs.opening.with_owns.Given as goal

abbrev pub invariant-loop-words : goal.invariant-loop-words
invariant-loop-words g l = record {
  len : vec_len l.words ≡ vec_len l.owns;
  room : vec_len l.words + vec_len l.passes ≤ vec_capacity l.passes;
  row : map new_state l.words.items ++ reverse l.passes.items ≡ map new_state l.fn.words.items;
}

abbrev pub decreases-loop-words : goal.decreases-loop-words
decreases-loop-words g l = length l.words.items
