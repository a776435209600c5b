-- When a step is refused: in the words of the machine, but for who stands in a line and which indices are free.
use Rattle.lock_word.specs.declared.ObjectId.{ObjectId}
use Rattle.std.specs.Prelude.{◌≡◌, ◌≢◌, ℕ, ◌<◌, ◌≤◌, Bool, length, Option, Some, None, IsSome}
use Rattle.lock_word.specs.declared.ThreadId.{ThreadId}
use Rattle.thread_index.specs.Indices.{holder_at}
use Rattle.wait_lines.specs.Lines.{Stands}
use Rattle.fast_path.specs.Calls.{object_of}
use Rattle.step_core.specs.declared.machine.Doing.TheVariants.{Idle, Waits}
use Rattle.step_core.specs.declared.steps.Step.{Step}
use Rattle.step_core.specs.declared.steps.Step.TheVariants as step
use Rattle.step_core.specs.declared.steps.Fault.{Fault}
use Rattle.step_core.specs.declared.steps.Fault.TheVariants.{NoIndex, Memory, Known, NoThread, NoObject, InCall}
use Rattle.step_core.specs.declared.steps.Fault.TheVariants.{NotCalling, Parked, NotDue, Backwards, NotWaiting}
use Rattle.step_core.specs.Machine.{Thread, Is, Exists}
use Rattle.step_core.specs.World.{WorldState}
use Rattle.step_core.specs.Shown.{shown}

abbrev pub IsLive : WorldState → ThreadId → Type 0
IsLive w t = IsSome ((shown w).thread t)

abbrev pub IsNotLive : WorldState → ThreadId → Type 0
IsNotLive w t = (shown w).thread t ≡ None

-- t is live and in a call, or live and in none
abbrev pub IsBusy : WorldState → ThreadId → Type 0
IsBusy w t = (x : Thread) × ((shown w).thread t ≡ Some x) × (x.act ≢ Idle)

abbrev pub IsIdle : WorldState → ThreadId → Type 0
IsIdle w t = (x : Thread) × ((shown w).thread t ≡ Some x) × (x.act ≡ Idle)

-- t stands in an entry line or a wait set
abbrev pub IsParked : WorldState → ThreadId → Type 0
IsParked w t = Stands w.fats.standing.lines t

-- t waits, and the moment has come at which its wait is over
abbrev pub IsDue : WorldState → ThreadId → Type 0
IsDue w t =
    (flag : Bool) × (o : ObjectId) × (n d : ℕ) × Is (shown w) t flag (Waits o n (Some d)) × (d ≤ (shown w).moment)

-- t waits
abbrev pub IsWaiting : WorldState → ThreadId → Type 0
IsWaiting w t = (flag : Bool) × (o : ObjectId) × (n : ℕ) × (d : Option ℕ) × Is (shown w) t flag (Waits o n d)

-- every index is a live thread's
abbrev pub IsFull : WorldState → Type 0
IsFull w = (k : ℕ) → k < length w.berths → IsSome (holder_at w.berths k)

abbrev pub HasFreeIndex : WorldState → Type 0
HasFreeIndex w = (k : ℕ) × (k < length w.berths) × (holder_at w.berths k ≡ None)

-- the step is refused with this fault: it is the first of the step's faults whose cause holds
abbrev pub IsRefused : WorldState → Step → Fault → Type 0
IsRefused w (step.Attach t) Known = IsLive w t
IsRefused w (step.Attach t) NoIndex = IsNotLive w t × IsFull w
IsRefused w (step.Attach t) Memory = IsNotLive w t × HasFreeIndex w
IsRefused w (step.Begin t c) NoThread = IsNotLive w t
IsRefused w (step.Begin t c) NoObject =
    IsLive w t × ((o : ObjectId) × (object_of c ≡ Some o) × ((shown w).objects ≤ o.0))
IsRefused w (step.Begin t c) InCall = IsBusy w t × Exists (shown w).objects c
IsRefused w (step.Go t) NoThread = IsNotLive w t
IsRefused w (step.Go t) NotCalling = IsIdle w t
IsRefused w (step.Go t) Parked = IsLive w t × IsParked w t
IsRefused w (step.Expire t) NoThread = IsNotLive w t
IsRefused w (step.Expire t) NotDue = IsLive w t × (IsDue w t → ⊥)
IsRefused w (step.Spurious t) NoThread = IsNotLive w t
IsRefused w (step.Spurious t) NotWaiting = IsLive w t × (IsWaiting w t → ⊥)
IsRefused w (step.Tick now) Backwards = now < (shown w).moment
IsRefused w s f = ⊥

-- no fault of the step holds, want of memory apart
abbrev pub IsAcceptable : WorldState → Step → Type 0
IsAcceptable w s = (f : Fault) → IsRefused w s f → f ≡ Memory
