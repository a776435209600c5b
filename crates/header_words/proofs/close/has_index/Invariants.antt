use Rattle.std.proofs.Common.{◌≢◌, ◌<◌, ℕ, map, get_or}
use Rattle.header_words.specs.Passes.{PassValue}
use Rattle.header_words.proofs.close.has_index.Given as goal

abbrev pub invariant-loop-pass : goal.invariant-loop-pass
invariant-loop-pass g l = (k : ℕ) (d : ℕ) → k < l.pass-index → get_or (map (λ (p : PassValue). p.index) l.passes) k d ≢ l.index
