use Rattle.std.proofs.Common.{◌≡◌, map, take}
use Rattle.live_scripts.specs.Plans.{objects_of}
use Rattle.live_scripts.proofs.plans.objects_of.Given as goal

abbrev pub invariant-lines : goal.invariant-lines
invariant-lines l = map (λ t. t.now) l.objects.items ≡ objects_of (take l.line-index l.lines)
