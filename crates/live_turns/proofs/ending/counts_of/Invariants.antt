use Rattle.std.proofs.Common.{◌≡◌, take, map}
use Rattle.live_turns.specs.Ends.{count_of}
use Rattle.live_turns.proofs.ending.counts_of.Given as goal

abbrev pub invariant-loop-pass : goal.invariant-loop-pass
invariant-loop-pass g l = l.counts.items ≡ map count_of (take l.pass-index l.passes)
