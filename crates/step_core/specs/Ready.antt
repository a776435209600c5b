-- The parts of a world, as the functions over them see it.
use Rattle.std.specs.Prelude.{ℕ, ◌<◌, ◌≤◌, List, [], length, slice_index_or, Option}
use Rattle.lock_word.specs.declared.ThreadId.{ThreadId}
use Rattle.lock_word.specs.declared.Word.{Word}
use Rattle.lock_word.specs.declared.Split.{Split}
use Rattle.lock_word.specs.Layout.{Fits, IsMalformed, greatest_count}
use Rattle.fat_monitor.specs.declared.actions.Action.{Action}
use Rattle.fat_monitor.specs.declared.actions.Action.TheVariants as action
use Rattle.fat_monitor.specs.FatState.{FatState}
use Rattle.step_core.specs.declared.places.Place.{Place}
use Rattle.step_core.specs.declared.places.Stage.{Stage}
use Rattle.step_core.specs.declared.places.Stage.TheVariants.{Begun, Taking, Storing, Binding, Acting, Won, Bound}
use Rattle.step_core.specs.declared.places.Stage.TheVariants.{Inflated, Direct}
use Rattle.step_core.specs.World.{WorldState, low_word}

-- a world of these parts
abbrev pub world_of : Split → List Word → List (Option ThreadId) → List Place → FatState → WorldState
world_of split words berths places fats = record {
  split = split;
  words = words;
  berths = berths;
  places = places;
  fats = fats;
}

-- a world of these words and fat state, without threads
abbrev pub bare : Split → List Word → FatState → WorldState
bare split words fats = world_of split words [] [] fats

-- each word decodes
abbrev pub AreFormed : Split → List Word → Type 0
AreFormed split words = (p : ℕ) → IsMalformed split (slice_index_or words p (low_word 0)).0 → ⊥

-- a Go may be made from this stage: its object is there, its lock fits, its monitor is bound
abbrev pub IsReady : Split → List Word → FatState → Stage → Type 0
IsReady split words f (Begun c contended) = c.object.0 < length words
IsReady split words f (Taking o contended) = o.0 < length words
IsReady split words f (Storing c l) = (c.object.0 < length words) × Fits split l
IsReady split words f (Binding c n) = n ≤ greatest_count split
IsReady split words f (Acting c m) = m < length f.monitors
IsReady split words f (Won o) = Unit {0}
IsReady split words f (Bound c won m) = (c.object.0 < length words) × (m ≤ 8388607)
IsReady split words f (Inflated c m) = m < length f.monitors
IsReady split words f (Direct c) = Unit {0}

-- the action is a call's own: no Expire, no Spurious, no Collect and no End
abbrev pub IsOwnAction : Action → Type 0
IsOwnAction (action.Enter m) = Unit {0}
IsOwnAction (action.Exit m) = Unit {0}
IsOwnAction (action.Wait m millis nanos) = Unit {0}
IsOwnAction (action.Notify m) = Unit {0}
IsOwnAction (action.NotifyAll m) = Unit {0}
IsOwnAction (action.Holds m) = Unit {0}
IsOwnAction (action.Interrupt t) = Unit {0}
IsOwnAction action.Interrupted = Unit {0}
IsOwnAction (action.IsInterrupted t) = Unit {0}
IsOwnAction action.Expire = ⊥
IsOwnAction action.Spurious = ⊥
IsOwnAction action.Collect = ⊥
IsOwnAction action.End = ⊥
