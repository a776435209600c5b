-- How long a call may take: the Go steps that it has left.
use Rattle.std.specs.Prelude.{◌≡◌, ◌≢◌, ◌⊎◌, ℕ, ◌+◌, ◌-◌, ◌<◌, ◌≤◌, Bool, if◌then◌else◌, ◌==◌, List, [], ◌∷◌, length}
use Rattle.std.specs.Prelude.{Option, Some, None, IsSome, Ok}
use Rattle.lock_word.specs.declared.ThreadId.{ThreadId}
use Rattle.lock_word.specs.declared.ObjectId.{ObjectId}
use Rattle.lock_word.specs.declared.Lock.TheVariants.{Thin}
use Rattle.lock_word.specs.Layout.{lock_of}
use Rattle.thread_index.specs.Indices.{berth_of, index_of}
use Rattle.fat_monitor.specs.declared.actions.Answer.TheVariants as answer
use Rattle.fast_path.specs.declared.calls.Call.TheVariants as call
use Rattle.step_core.specs.declared.machine.Doing.TheVariants as doing
use Rattle.step_core.specs.declared.places.Place.{Place}
use Rattle.step_core.specs.declared.places.Place.TheVariants.{Idle, InCall, Ending, AtPost}
use Rattle.step_core.specs.declared.places.Stage.{Stage}
use Rattle.step_core.specs.declared.places.Stage.TheVariants.{Begun, Taking, Storing, Binding, Acting, Won, Bound}
use Rattle.step_core.specs.declared.places.Stage.TheVariants.{Inflated, Direct}
use Rattle.step_core.specs.declared.steps.Atomic.{Atomic}
use Rattle.step_core.specs.declared.steps.Atomic.TheVariants.{Load, Lost, Acted}
use Rattle.step_core.specs.declared.steps.Did.{Did}
use Rattle.step_core.specs.declared.steps.Request.{Request}
use Rattle.step_core.specs.declared.steps.Request.TheVariants as request
use Rattle.step_core.specs.declared.steps.Step.{Step}
use Rattle.step_core.specs.declared.steps.Step.TheVariants as step
use Rattle.step_core.specs.Machine.{Is}
use Rattle.step_core.specs.World.{WorldState, place_at}
use Rattle.step_core.specs.Shown.{shown}
use Rattle.step_core.specs.Step.{step_of}
use Rattle.step_core.specs.Requests.{world_then}

-- the Go steps that a call has left at this stage at most, if it meets nobody
abbrev pub left_in : Stage → ℕ
left_in (Begun c contended) = 4
left_in (Taking o contended) = 3
left_in (Storing c l) = 3
left_in (Binding c n) = 3
left_in (Acting c m) = 3
left_in (Won o) = 2
left_in (Bound c won m) = if won then 1 else 2
left_in (Inflated c m) = 1
left_in (Direct c) = 4

-- and at this place, where there are so many objects
abbrev pub left_at : ℕ → Place → ℕ
left_at objects Idle = 0
left_at objects (InCall s) = left_in s
left_at objects (Ending n) = objects + 1 - n
left_at objects AtPost = 1

abbrev pub left_of_berth : WorldState → Option ℕ → ℕ
left_of_berth w None = 0
left_of_berth w (Some k) = left_at (length w.words) (place_at w k)

-- the Go steps that the call of t has left; 0 where t is in no call
abbrev pub left_of : WorldState → ThreadId → ℕ
left_of w t = left_of_berth w (berth_of w.berths t)

-- t has met another thread: its enter loaded a thin word of another's, or it lost its exchange
abbrev pub HasMet : WorldState → ThreadId → Atomic → Type 0
HasMet w t (Load o x) =
    ((p : ObjectId) × (flag : Bool) × Is (shown w) t flag (doing.Wants (call.Enter p)))
    × ((i n : ℕ) × (lock_of w.split x.0 ≡ Thin i n) × (index_of w.berths t ≢ Some i))
HasMet w t (Lost o x) = Unit {0}
HasMet w t a = ⊥

-- t has parked in a line
abbrev pub HasParked : Atomic → Type 0
HasParked (Acted a answer.Parked) = Unit {0}
HasParked a = ⊥

-- a Go of t that did this replies, parks, meets another thread, or lowers what is left, which stays at least 1
abbrev pub Advances : WorldState → ThreadId → Did → WorldState → Type 0
Advances w t d w' =
    IsSome d.reply ⊎ (HasParked d.atomic ⊎ (HasMet w t d.atomic ⊎ ((left_of w' t < left_of w t) × (1 ≤ left_of w' t))))

-- what a step does to the patience of a thread: a Go of its own advances it, and no other thread's step touches it
abbrev pub IsPatient : WorldState → Step → Did → WorldState → Type 0
IsPatient w (step.Attach t) d w' = (u : ThreadId) → u.0 ≢ t.0 → left_of w' u ≡ left_of w u
IsPatient w (step.Begin t c) d w' = (u : ThreadId) → u.0 ≢ t.0 → left_of w' u ≡ left_of w u
IsPatient w (step.Expire t) d w' = (u : ThreadId) → left_of w' u ≡ left_of w u
IsPatient w (step.Spurious t) d w' = (u : ThreadId) → left_of w' u ≡ left_of w u
IsPatient w (step.Tick now) d w' = (u : ThreadId) → left_of w' u ≡ left_of w u
IsPatient w (step.Go t) d w' = Advances w t d w' × ((u : ThreadId) → u.0 ≢ t.0 → left_of w' u ≡ left_of w u)

-- how many of these are a Go of t
abbrev pub goes_of : ThreadId → List (Request × Bool) → ℕ
goes_of t [] = 0
goes_of t ((request.Step (step.Attach u), room) ∷ rs) = goes_of t rs
goes_of t ((request.Step (step.Begin u c), room) ∷ rs) = goes_of t rs
goes_of t ((request.Step (step.Go u), room) ∷ rs) = if u.0 == t.0 then goes_of t rs + 1 else goes_of t rs
goes_of t ((request.Step (step.Expire u), room) ∷ rs) = goes_of t rs
goes_of t ((request.Step (step.Spurious u), room) ∷ rs) = goes_of t rs
goes_of t ((request.Step (step.Tick now), room) ∷ rs) = goes_of t rs
goes_of t ((request.Relayout split, room) ∷ rs) = goes_of t rs

-- it is no Go of t, or one that is accepted and neither replies nor parks nor meets another thread
abbrev pub Lingers : WorldState → ThreadId → (Request × Bool) → Type 0
Lingers w t (request.Step (step.Attach u), room) = Unit {0}
Lingers w t (request.Step (step.Begin u c), room) = Unit {0}
Lingers w t (request.Step (step.Expire u), room) = Unit {0}
Lingers w t (request.Step (step.Spurious u), room) = Unit {0}
Lingers w t (request.Step (step.Tick now), room) = Unit {0}
Lingers w t (request.Relayout split, room) = Unit {0}
Lingers w t (request.Step (step.Go u), room) =
    u.0 ≡ t.0 → (d : Did) × ((step_of room w (step.Go u)).answer ≡ Ok d)
    × (IsSome d.reply → ⊥) × (HasParked d.atomic → ⊥) × (HasMet w u d.atomic → ⊥)

-- and so is each of these
abbrev pub AllLinger : WorldState → ThreadId → List (Request × Bool) → Type 0
AllLinger w t [] = Unit {0}
AllLinger w t (r ∷ rs) = Lingers w t r × AllLinger (world_then w r) t rs
