use Rattle.std.proofs.Common.{◌≡◌, ◌++◌, Some, drop}
use Rattle.step_core.specs.Requests.{moves_after}
use Rattle.explore.specs.States.{played, played_from}
use Rattle.explore_runs.specs.Steps.{granted, script_moves, steps_from}
use Rattle.explore_runs.proofs.histories.moves_of.Given as goal

abbrev pub invariant-choices : goal.invariant-choices
invariant-choices l = record {
  moves : script_moves l.program l.choices
      ≡ l.moves.items ++ moves_after l.state.world (granted (steps_from l.program (Some l.state) (drop l.choice-index l.choices)));
  state : played l.program l.choices ≡ played_from l.program (drop l.choice-index l.choices) (Some l.state);
}
