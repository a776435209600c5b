use Rattle.std.proofs.Common.{false}
use Rattle.live_turns.specs.Ways.{Belongs}
use Rattle.live_tests.proofs.turns.driven.go_through.Given as goal

abbrev pub invariant-loop-number : goal.invariant-loop-number
invariant-loop-number g l = record {
  first : Belongs l.turns false l.first.holding;
  second : Belongs l.turns false l.second.holding;
}
