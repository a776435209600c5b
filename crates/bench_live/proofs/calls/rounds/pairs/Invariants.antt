use Rattle.std.proofs.Common.{◌≡◌}
use Rattle.bench_live.proofs.calls.rounds.pairs.Given as goal

abbrev pub invariant-loop : goal.invariant-loop
invariant-loop g l = l.pass.words.opening ≡ l.live
