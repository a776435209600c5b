use Rattle.std.proofs.Common.{◌≡◌, map, take}
use Rattle.live_scripts.specs.Rules.{attached_threads}
use Rattle.live_scripts.proofs.plans.threads_of.Given as goal

abbrev pub invariant-lines : goal.invariant-lines
invariant-lines l = map (λ t. t.now) l.threads.items ≡ attached_threads (take l.line-index l.lines)
