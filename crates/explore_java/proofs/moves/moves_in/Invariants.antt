use Rattle.std.proofs.Common.{◌≡◌}
use Rattle.explore_java.specs.Moves.{moves_below}
use Rattle.explore_java.proofs.moves.moves_in.Given as goal

abbrev pub invariant-threads : goal.invariant-threads
invariant-threads l = l.moves.items ≡ moves_below l.program l.state l.thread
