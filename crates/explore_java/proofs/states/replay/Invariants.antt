use Rattle.std.proofs.Common.{◌≡◌, Some, take}
use Rattle.jls_check.specs.Numbers.{AreBelow}
use Rattle.explore_java.specs.JavaStates.{count_of, played}
use Rattle.explore_java.proofs.states.replay.Given as goal

abbrev pub invariant-moves : goal.invariant-moves
invariant-moves l = record {
  leads : played l.program (take l.made-index l.moves) ≡ Some l.state;
  below : AreBelow (count_of l.program) l.state.machine;
}
