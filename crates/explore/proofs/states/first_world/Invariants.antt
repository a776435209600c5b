use Rattle.std.proofs.Common.{◌≡◌}
use Rattle.explore.specs.States.{attached}
use Rattle.explore.proofs.states.first_world.Given as goal

abbrev pub invariant-attaching : goal.invariant-attaching
invariant-attaching l = l.world ≡ attached l.initial.world l.thread
