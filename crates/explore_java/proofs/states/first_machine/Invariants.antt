use Rattle.std.proofs.Common.{◌≡◌}
use Rattle.explore_java.specs.JavaStates.{attached}
use Rattle.explore_java.proofs.states.first_machine.Given as goal

abbrev pub invariant-attaching : goal.invariant-attaching
invariant-attaching l = l.machine ≡ attached l.initial.machine l.number
