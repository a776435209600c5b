use Rattle.std.proofs.Common.{◌≡◌, map, take}
use Rattle.live_scripts.specs.Plans.{calls_of}
use Rattle.live_scripts.proofs.plans.rows_of.Given as goal

abbrev pub invariant-threads : goal.invariant-threads
invariant-threads l = map (λ v. v.items) l.rows.items ≡ map (λ t. calls_of (map (λ t. t.now) l.fn.objects) (map (λ t. t.now) l.fn.threads) t.now l.fn.lines) (take l.thread-index l.threads)
