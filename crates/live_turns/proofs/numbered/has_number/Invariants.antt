use Rattle.std.proofs.Common.{◌≢◌, ◌<◌, ℕ, get_or, map}
use Rattle.live_turns.proofs.numbered.has_number.Given as goal

abbrev pub invariant-loop-pass : goal.invariant-loop-pass
invariant-loop-pass g l = (k : ℕ) (d : ℕ) → k < l.pass-index → get_or (map g.P.Numbered.numbered l.passes) k d ≢ l.number
