use Rattle.std.proofs.Common.{map}
use Rattle.live_turns.specs.Numbers.{HasNumbers}
use Rattle.live_turns.proofs.numbered.has_numbers.Given as goal

abbrev pub invariant-loop-below : goal.invariant-loop-below
invariant-loop-below g l = HasNumbers l.below (map g.P.Numbered.numbered l.passes)
