-- What a refused call leaves: every owner, count, wait set and flag.
use Rattle.lock_word.specs.declared.ObjectId.{ObjectId}
use Rattle.std.specs.Prelude.{◌≡◌, Option, Some}
use Rattle.lock_word.specs.declared.ThreadId.{ThreadId}
use Rattle.fat_monitor.specs.declared.actions.Reply.{Reply}
use Rattle.fat_monitor.specs.declared.actions.Reply.TheVariants.{Refused}
use Rattle.fat_monitor.specs.declared.actions.Cause.{Cause}
use Rattle.std.specs.Option.{option_map}
use Rattle.step_core.specs.Machine.{State, Thread, is_waiting}
use Rattle.step_core.specs.World.{WorldState}
use Rattle.step_core.specs.Shown.{shown}

-- these two states have the same owners, counts, wait sets and flags
pub record IsSpared (s s' : State) : Type 0 where
  pub monitors : (o : ObjectId) → s'.monitor o ≡ s.monitor o
  pub wait_sets : (u : ThreadId) (o : ObjectId) → is_waiting (s'.thread u) o ≡ is_waiting (s.thread u) o
  pub flags : (u : ThreadId)
      → option_map (λ (x : Thread). x.flag) (s'.thread u) ≡ option_map (λ (x : Thread). x.flag) (s.thread u)

-- a call that is refused leaves them
abbrev pub Spares : WorldState → Option Reply → WorldState → Type 0
Spares w d w' = (c : Cause) → d ≡ Some (Refused c) → IsSpared (shown w) (shown w')
