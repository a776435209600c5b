use Rattle.std.proofs.Common.{◌≡◌, ◌<◌, ◌++◌, length}
use Rattle.std.specs.Prelude.{reverse}
use Rattle.explore_java.specs.JavaFound.{witness_at, witnesses}
use Rattle.explore_java.proofs.found.moves_to.Given as goal

abbrev pub invariant-back : goal.invariant-back
invariant-back l = record {
  within : l.at < length (witnesses l.nodes.items);
  rest : witness_at (witnesses l.nodes.items) l.state ≡ witness_at (witnesses l.nodes.items) l.at ++ reverse l.moves.items;
}

abbrev pub decreases-back : goal.decreases-back
decreases-back l = l.at
