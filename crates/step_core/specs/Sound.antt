-- What holds of every world.
use Rattle.step_core.specs.World.{place_at, word_at, lock_at, is_own, WorldState}
use Rattle.std.specs.Prelude.{Some, ◌≢◌, is_some, count_by, ◌≡◌, ℕ, ◌+◌, ◌-◌, ◌<◌, ◌≤◌, length, Option, None, IsSome}
use Rattle.std.specs.Prelude.{false, ◌⊎◌}
use Rattle.lock_word.specs.declared.ThreadId.{ThreadId}
use Rattle.lock_word.specs.declared.Lock.{Lock}
use Rattle.lock_word.specs.declared.Lock.TheVariants.{Free, Thin, Fat}
use Rattle.lock_word.specs.Layout.{IsMalformed, greatest_index, greatest_count}
use Rattle.thread_index.specs.Indices.{berth_of, holder_at, IsOneToOne}
use Rattle.fat_monitor.specs.FatState.{FatState, monitor_at, IsAttached, post_of, thread_count}
use Rattle.fat_monitor.specs.declared.actions.Post.{Post}
use Rattle.fat_monitor.specs.declared.actions.Post.TheVariants.{Out}
use Rattle.fat_monitor.specs.FatState as fat
use Rattle.fast_path.specs.declared.calls.MonitorCall.{MonitorCall}
use Rattle.fast_path.specs.declared.Next.TheVariants as next
use Rattle.fast_path.specs.Table.{next_of}
use Rattle.step_core.specs.declared.places.Place.{Place}
use Rattle.step_core.specs.declared.places.Place.TheVariants.{Idle, InCall, Ending, AtPost}
use Rattle.step_core.specs.declared.places.Stage.{Stage}
use Rattle.step_core.specs.declared.places.Stage.TheVariants.{Begun, Taking, Storing, Binding, Acting, Won, Bound}
use Rattle.step_core.specs.declared.places.Stage.TheVariants.{Inflated, Direct}

-- the object of the call exists
abbrev pub Reaches : WorldState → MonitorCall → Type 0
Reaches w c = c.object.0 < length w.words

-- a lock that object p may show: a thin one is a live thread's, and a fat one is of a monitor that is bound to p
abbrev pub MayShow : WorldState → ℕ → Lock → Type 0
MayShow w p Free = Unit {0}
MayShow w p (Thin i c) =
    (1 ≤ i) × (i ≤ greatest_index w.split) × (c ≤ greatest_count w.split) × IsSome (holder_at w.berths (i - 1))
MayShow w p (Fat m) = (m < length w.fats.monitors) × ((monitor_at w.fats m).object.0 ≡ p)

-- The thread at berth k may stand at this stage of a call: what it found when it loaded still stands, since a
-- thin word is its owner's, a fat word stays fat, and a monitor that is bound and not stored is nobody else's.
abbrev pub FittingStage : WorldState → ℕ → Stage → Type 0
FittingStage w k (Begun c contended) = Reaches w c
FittingStage w k (Taking o contended) = o.0 < length w.words
FittingStage w k (Storing c l) =
    Reaches w c
    × ((n : ℕ) × (lock_at w c.object.0 ≡ Thin (k + 1) n)
    × (next_of w.split c.operation (Thin (k + 1) n) (k + 1) ≡ next.Store l))
FittingStage w k (Binding c n) =
    Reaches w c × (lock_at w c.object.0 ≡ Thin (k + 1) n)
    × (next_of w.split c.operation (Thin (k + 1) n) (k + 1) ≡ next.Bind)
FittingStage w k (Acting c m) = Reaches w c × (lock_at w c.object.0 ≡ Fat m)
FittingStage w k (Won o) = (o.0 < length w.words) × (lock_at w o.0 ≡ Thin (k + 1) 0)
FittingStage w k (Bound c won m) =
    Reaches w c × (m < length w.fats.monitors)
    × ((n : ℕ) × (lock_at w c.object.0 ≡ Thin (k + 1) n)
    × (monitor_at w.fats m ≡ record { object = c.object; owner = holder_at w.berths k; holds = n + 1 }))
FittingStage w k (Inflated c m) = Reaches w c × (lock_at w c.object.0 ≡ Fat m)
FittingStage w k (Direct c) = Unit {0}

-- The thread at berth k may stand at this place. One that is to end owns none of the objects that it has loaded.
abbrev pub Fitting : WorldState → ℕ → Place → Type 0
Fitting w k Idle = Unit {0}
Fitting w k (InCall s) = FittingStage w k s
Fitting w k (Ending n) = (n ≤ length w.words) × ((p : ℕ) → p < n → is_own (lock_at w p) (k + 1) ≡ false)
Fitting w k AtPost = Unit {0}

-- the monitor that a thread at this stage has bound and is to store
abbrev pub bound_in : Stage → Option ℕ
bound_in (Bound c won m) = Some m
bound_in s = None

abbrev pub bound_by : Place → Option ℕ
bound_by (InCall s) = bound_in s
bound_by p = None

-- a thread at its post is in a line or was granted, and at any other place it is out of every fat action
abbrev pub Agrees : Place → Option Post → Type 0
Agrees AtPost p = p ≢ Some Out
Agrees q p = p ≡ Some Out

-- a monitor that is bound is shown by its object, or somebody is to store it
abbrev pub IsPublished : WorldState → ℕ → Type 0
IsPublished w m =
    (lock_at w (monitor_at w.fats m).object.0 ≡ Fat m)
    ⊎ ((j : ℕ) × (j < length w.places) × (bound_by (place_at w j) ≡ Some m))

-- what every world keeps
pub record IsSound (w : WorldState) : Type 0 where
  pub many : length w.words ≤ 65535
  pub berthed : length w.places ≡ length w.berths
  pub few : length w.berths ≤ greatest_index w.split
  pub one_to_one : IsOneToOne w.berths
  pub formed : (p : ℕ) → IsMalformed w.split (word_at w p).0 → ⊥
  pub words : (p : ℕ) → p < length w.words → MayShow w p (lock_at w p)
  pub fats : fat.IsSound w.fats
  pub published : (m : ℕ) → m < length w.fats.monitors → IsPublished w m
  -- the attached threads are the live ones
  pub attached : (t : ThreadId) → IsSome (berth_of w.berths t) → IsAttached w.fats t
  pub live : (t : ThreadId) → IsAttached w.fats t → IsSome (berth_of w.berths t)
  pub posted : (t : ThreadId) (k : ℕ) → berth_of w.berths t ≡ Some k → Agrees (place_at w k) (post_of w.fats t)
  pub counted : thread_count w.fats ≡ count_by is_some w.berths
  pub places : (k : ℕ) → k < length w.places → Fitting w k (place_at w k)
