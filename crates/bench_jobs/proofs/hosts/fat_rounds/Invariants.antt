use Rattle.std.proofs.Common.{◌≡◌}
use Rattle.bench_jobs.proofs.hosts.fat_rounds.Given as goal

abbrev pub invariant-loop-number : goal.invariant-loop-number
invariant-loop-number g l = l.pass.words.opening ≡ l.live
