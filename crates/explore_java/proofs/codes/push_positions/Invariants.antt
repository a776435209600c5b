use Rattle.std.proofs.Common.{◌≡◌, ◌++◌, take}
use Rattle.explore_java.proofs.codes.push_positions.Given as goal

abbrev pub invariant-positions : goal.invariant-positions
invariant-positions l = l.numbers.items ≡ l.initial.numbers.items ++ take l.position-index l.positions
