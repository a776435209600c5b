use Rattle.std.proofs.Common.{◌≡◌, ◌++◌, drop}
use Rattle.step_core.specs.Step.{moves_made}
use Rattle.explore_runs.proofs.histories.push_made.Given as goal

abbrev pub invariant-made : goal.invariant-made
invariant-made l = l.fn.moves.items ++ moves_made l.made ≡ l.moves.items ++ moves_made (drop l.one-index l.made)
