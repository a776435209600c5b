use Rattle.std.proofs.Common.{◌≤◌, ℕ}
use Rattle.std.specs.List.{Contains}
use Rattle.header_words.specs.Passes.{indices_of}
use Rattle.header_words.proofs.close.has_all.Given as goal

abbrev pub invariant-loop-below : goal.invariant-loop-below
invariant-loop-below g l = (i : ℕ) → 1 ≤ i → i ≤ l.below → Contains (indices_of l.passes) i
