use Rattle.std.proofs.Common.{◌≡◌, take}
use Rattle.live_scripts.specs.Plans.{lows_of}
use Rattle.live_scripts.proofs.plans.lows_of.Given as goal

abbrev pub invariant-lines : goal.invariant-lines
invariant-lines l = l.lows.items ≡ lows_of (take l.line-index l.lines)
