-- The choices of a witness, made once more.
use Rattle.std.specs.Prelude.{◌≡◌, ℕ, suc, List, map, slice_get, take, Some}
use Rattle.explore.specs.declared.programs.Program.{Program}
use Rattle.explore.specs.declared.programs.Choice.{Choice}
use Rattle.explore.specs.declared.trail.Reached.{Reached}
use Rattle.explore.specs.States.{played}

-- the choices of a trail
abbrev pub choices_along : List Reached → List Choice
choices_along ms = map (λ (m : Reached). m.choice) ms

-- each state of a trail is behind the choices up to its own
abbrev pub AreReached : Program → List Reached → Type 0
AreReached p ms =
    (i : ℕ) (m : Reached) → slice_get ms i ≡ Some m → played p (choices_along (take (suc i) ms)) ≡ Some m.state
