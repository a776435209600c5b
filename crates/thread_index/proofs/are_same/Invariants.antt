use Rattle.std.proofs.Common.{◌≡◌, ℕ, ◌<◌}
use Rattle.thread_index.specs.Indices.{holder_at}
use Rattle.thread_index.proofs.are_same.Given as goal

abbrev pub invariant-loop-berth : goal.invariant-loop-berth
invariant-loop-berth l = (k : ℕ) → k < l.berth → holder_at l.holders k ≡ holder_at l.others k
