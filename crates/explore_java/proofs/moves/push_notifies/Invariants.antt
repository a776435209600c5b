use Rattle.std.proofs.Common.{◌≡◌, ◌++◌}
use Rattle.explore_java.specs.Moves.{notifies}
use Rattle.explore_java.proofs.moves.push_notifies.Given as goal

abbrev pub invariant-choosing : goal.invariant-choosing
invariant-choosing l = l.moves.items ≡ l.initial.moves.items ++ notifies l.thread l.chosen
