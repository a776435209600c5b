use Rattle.std.proofs.Common.{length}
use Rattle.bench_jobs.proofs.digests.Digest.mix_bytes.Given as goal

abbrev pub decreases-words : goal.decreases-words
decreases-words l = length l.rest
