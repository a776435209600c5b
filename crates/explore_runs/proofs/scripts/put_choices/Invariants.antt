use Rattle.std.proofs.Common.{◌≡◌, ◌++◌, Some, drop, string_bytes}
use Rattle.explore.specs.States.{opening, played, played_from}
use Rattle.explore_runs.specs.Scripts.{choice_lines}
use Rattle.explore_runs.proofs.scripts.put_choices.Given as goal

abbrev pub invariant-choices : goal.invariant-choices
invariant-choices l = record {
  lines : string_bytes l.fn.text ++ choice_lines l.names l.program (Some (opening l.program)) l.choices
      ≡ string_bytes l.text ++ choice_lines l.names l.program (Some l.state) (drop l.choice-index l.choices);
  state : played l.program l.choices ≡ played_from l.program (drop l.choice-index l.choices) (Some l.state);
}
