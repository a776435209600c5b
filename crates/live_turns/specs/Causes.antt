-- Why a live call is refused.
use Rattle.std.specs.Prelude.{◌≡◌, Bool}
use Rattle.fat_monitor.specs.declared.actions.Cause.{Cause}
use Rattle.fat_monitor.specs.declared.actions.Cause.TheVariants as cause
use Rattle.fat_monitor.specs.declared.actions.Reply.TheVariants as reply
use Rattle.fast_path.specs.declared.calls.MonitorCall.{MonitorCall}
use Rattle.fast_path.specs.declared.calls.Operation.{Operation}
use Rattle.fast_path.specs.declared.calls.Operation.TheVariants as op
use Rattle.fast_path.specs.declared.calls.InterruptCall.{InterruptCall}
use Rattle.fast_path.specs.declared.calls.InterruptCall.TheVariants as about
use Rattle.step_core.specs.declared.places.Place.TheVariants.{InCall}
use Rattle.step_core.specs.declared.places.Stage.TheVariants.{Begun, Direct}
use Rattle.step_core.specs.declared.paths.Point.{Point}
use Rattle.step_core.specs.declared.paths.Point.TheVariants.{At, Said}
use Rattle.live_turns.specs.Ways.{Holding, Went}

-- For what a call on an object may be refused: an enter NoMonitor or TooDeep, a wait NoMonitor, and no other.
abbrev pub MayRefuseOn : Operation → Cause → Type 0
MayRefuseOn op.Enter cause.NoMonitor = Unit {0}
MayRefuseOn op.Enter cause.TooDeep = Unit {0}
MayRefuseOn (op.Wait millis nanos) cause.NoMonitor = Unit {0}
MayRefuseOn p c = ⊥

-- a call about interrupts that names a thread may be refused NoThread
abbrev pub MayRefuseAbout : InterruptCall → Cause → Type 0
MayRefuseAbout (about.Interrupt u) c = c ≡ cause.NoThread
MayRefuseAbout about.Interrupted c = ⊥
MayRefuseAbout (about.IsInterrupted u) c = c ≡ cause.NoThread

-- what a call that was begun replied so is refused for
abbrev pub OnIsRefusedSo : Type 0
OnIsRefusedSo =
    (c : MonitorCall) (k : Bool) (x : Cause) (p q : Holding) → Went (At (InCall (Begun c k))) (Said (reply.Refused x)) p q
    → MayRefuseOn c.operation x

abbrev pub AboutIsRefusedSo : Type 0
AboutIsRefusedSo =
    (c : InterruptCall) (x : Cause) (p q : Holding) → Went (At (InCall (Direct c))) (Said (reply.Refused x)) p q
    → MayRefuseAbout c x

-- no turn of a call that has no reply yet ends in want of memory
abbrev pub IsNeverWithoutMemory : Type 0
IsNeverWithoutMemory = (s : Point) (p q : Holding) → (s ≡ Said (reply.Refused cause.Memory) → ⊥) → Went s (Said (reply.Refused cause.Memory)) p q → ⊥
