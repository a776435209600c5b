use Rattle.std.proofs.Common.{◌≡◌, map, take}
use Rattle.live_scripts.specs.Plans.{calls_of}
use Rattle.live_scripts.proofs.plans.calls_of.Given as goal

abbrev pub invariant-lines : goal.invariant-lines
invariant-lines l = l.calls.items ≡ calls_of (map (λ t. t.now) l.fn.objects) (map (λ t. t.now) l.fn.threads) l.fn.thread (take l.line-index l.lines)
