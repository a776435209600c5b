-- Lists of steps from an opening world.
use Rattle.std.specs.Prelude.{ℕ, ◌<◌, ◌≤◌, Bool, List, length, slice_index}
use Rattle.lock_word.specs.declared.Split.{Split}
use Rattle.lock_word.specs.Layout.{greatest_index}
use Rattle.step_core.specs.declared.steps.Request.{Request}
use Rattle.step_core.specs.World.{WorldState, opening_world}
use Rattle.step_core.specs.Requests.{world_after}

-- the low bytes, monitors and indices of a world are within the limits of its split
pub record AreWithinLimits (lows : List ℕ) (monitors indices : ℕ) (split : Split) : Type 0 where
  pub bytes : (k : ℕ) → k < length lows → slice_index lows k < 256
  pub objects : length lows ≤ 65535
  pub bounded : monitors ≤ 8388608
  pub few : indices ≤ greatest_index split

-- the world that a list of steps, each with whether its growth is granted, leads to
abbrev pub reached : List ℕ → ℕ → ℕ → Split → List (Request × Bool) → WorldState
reached lows monitors indices split steps = world_after (opening_world lows monitors indices split) steps

-- This holds of every list of steps, of any number of threads and in any interleaving: of the low bytes and the
-- world of the opening, the steps, and the world that they lead to.
abbrev pub OfEveryList : (List ℕ → WorldState → List (Request × Bool) → WorldState → Type 0) → Type 0
OfEveryList P =
    (lows : List ℕ) (monitors indices : ℕ) (split : Split) (steps : List (Request × Bool))
    → AreWithinLimits lows monitors indices split
    → P lows (opening_world lows monitors indices split) steps (reached lows monitors indices split steps)
