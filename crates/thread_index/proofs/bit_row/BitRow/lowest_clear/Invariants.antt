use Rattle.std.proofs.Common.{◌≡◌, ℕ, ◌<◌, ◌-◌, ◌^◌, get_or}
use Rattle.thread_index.proofs.bit_row.BitRow.lowest_clear.Given as goal

abbrev pub invariant-loop-j : goal.invariant-loop-j
invariant-loop-j l = (k : ℕ) → k < l.j → get_or l.self.words.items k 0 ≡ 2 ^ 64 - 1
