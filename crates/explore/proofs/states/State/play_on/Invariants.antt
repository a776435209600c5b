use Rattle.std.proofs.Common.{◌≡◌, Some, drop}
use Rattle.explore.specs.States.{played_from}
use Rattle.explore.proofs.states.State.play_on.Given as goal

abbrev pub invariant-playing : goal.invariant-playing
invariant-playing l =
    played_from l.program (drop l.choice-index l.choices) (Some l.self) ≡ played_from l.program l.choices (Some l.fn.self)
