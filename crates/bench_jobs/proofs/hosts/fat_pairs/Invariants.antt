use Rattle.std.proofs.Common.{◌≡◌}
use Rattle.bench_jobs.proofs.hosts.fat_pairs.Given as goal

abbrev pub invariant-loop : goal.invariant-loop
invariant-loop g l = l.pass.words.opening ≡ l.live
