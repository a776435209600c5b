-- A step that asks for memory and does not tell that there is none is the step with memory granted.
use native.Mathlib.Omega.{arith}
use Rattle.std.proofs.Common.{◌≡◌, ℕ, ◌+◌, Bool, true, false, if◌then◌else◌, nat_lt, length, Option, Some, None, Ok, refl, sym, ap, add-one}
use Rattle.lock_word.specs.declared.ThreadId.{ThreadId}
use Rattle.fat_monitor.specs.declared.actions.Cause.TheVariants as cause
use Rattle.fast_path.specs.declared.calls.MonitorCall.{MonitorCall}
use Rattle.thread_index.specs.Indices.{berth_of, free_berth}
use Rattle.step_core.specs.declared.places.Place.{Place}
use Rattle.step_core.specs.declared.places.Place.TheVariants.{Idle, InCall, Ending, AtPost}
use Rattle.step_core.specs.declared.places.Stage.{Stage}
use Rattle.step_core.specs.declared.places.Stage.TheVariants.{Begun, Taking, Storing, Binding, Acting, Won, Bound, Inflated, Direct}
use Rattle.step_core.specs.declared.steps.Did.{Did}
use Rattle.step_core.specs.declared.steps.Step.{Step}
use Rattle.step_core.specs.declared.steps.Step.TheVariants as step
use Rattle.step_core.specs.World.{WorldState, place_at}
use Rattle.step_core.specs.Go.{after_bind, with_go, entering}
use Rattle.step_core.specs.Step.{AfterStep, accept, step_of, after_attach, after_go, after_go_at}
use Rattle.explore.specs.declared.programs.Program.{Program}
use Rattle.explore.specs.declared.programs.Choice.{Choice}
use Rattle.explore.specs.States.{ProgramState, thread_of, attached, step_for, after, after_answer, did_in, did_of, moved, replied, chosen}
use Rattle.explore.specs.Wants.{wants_memory}

-- where the one is accepted and does not tell of want of memory, it is the other
abbrev pub IsSameBut : AfterStep → AfterStep → Type 0
IsSameBut x y = (d : Did) → x.answer ≡ Ok d → wants_memory d.atomic ≡ false → x ≡ y

bind_same : (w : WorldState) (k : ℕ) (t : ThreadId) (c : MonitorCall) (won : Bool) (n : ℕ) (b : Bool)
    → IsSameBut (accept (with_go w k (after_bind w t c won n (if b then Some cause.Memory else Some cause.NoMonitor))) (after_bind w t c won n (if b then Some cause.Memory else Some cause.NoMonitor)).did)
    (accept (with_go w k (after_bind w t c won n (if b then None else Some cause.NoMonitor))) (after_bind w t c won n (if b then None else Some cause.NoMonitor)).did)
bind_same w k t c true n true = λ d e h. absurd (grind (arith, e, h))
bind_same w k t c false n true = λ d e h. absurd (grind (arith, e, h))
bind_same w k t c won n false = λ d e h. refl

stage_same : (w : WorldState) (k : ℕ) (t : ThreadId) (s : Stage)
    → IsSameBut (after_go_at false w k t (InCall s)) (after_go_at true w k t (InCall s))
stage_same w k t (Begun c b) = λ d e h. refl
stage_same w k t (Taking o b) = λ d e h. refl
stage_same w k t (Storing c l) = λ d e h. refl
stage_same w k t (Binding c n) = bind_same w k t c false (n + 1) (nat_lt (length w.fats.monitors) w.fats.limit)
stage_same w k t (Acting c m) = λ d e h. refl
stage_same w k t (Won o) = bind_same w k t (entering o) true 1 (nat_lt (length w.fats.monitors) w.fats.limit)
stage_same w k t (Bound c b m) = λ d e h. refl
stage_same w k t (Inflated c m) = λ d e h. refl
stage_same w k t (Direct c) = λ d e h. refl

place_same : (w : WorldState) (k : ℕ) (t : ThreadId) (p : Place)
    → IsSameBut (after_go_at false w k t p) (after_go_at true w k t p)
place_same w k t Idle = λ d e h. refl
place_same w k t (InCall s) = stage_same w k t s
place_same w k t (Ending n) = λ d e h. refl
place_same w k t AtPost = λ d e h. refl

go_same : (w : WorldState) (t : ThreadId) (b : Option ℕ) → IsSameBut (after_go false w t b) (after_go true w t b)
go_same w t None = λ d e h. refl
go_same w t (Some k) = place_same w k t (place_at w k)

attach_same : (w : WorldState) (t : ThreadId) (b f : Option ℕ)
    → IsSameBut (after_attach false w t b f) (after_attach true w t b f)
attach_same w t (Some k) f = λ d e h. refl
attach_same w t None None = λ d e h. refl
attach_same w t None (Some k) = λ d e h. absurd (grind (arith, e))

pub step_same : (w : WorldState) (x : Step) → IsSameBut (step_of false w x) (step_of true w x)
step_same w (step.Attach t) = attach_same w t (berth_of w.berths t) (free_berth w.berths)
step_same w (step.Begin t c) = λ d e h. refl
step_same w (step.Go t) = go_same w t (berth_of w.berths t)
step_same w (step.Expire t) = λ d e h. refl
step_same w (step.Spurious t) = λ d e h. refl
step_same w (step.Tick n) = λ d e h. refl

attach_granted : (w : WorldState) (t : ThreadId) (b f : Option ℕ) (room : Bool) (d : Did) (v : WorldState)
    → record { answer = Ok d; after = v } ≡ after_attach room w t b f
    → v ≡ (after_attach true w t b f).after
attach_granted w t b f true d v e = ap (λ (o : AfterStep). o.after) e
attach_granted w t (Some k) f false d v e = ap (λ (o : AfterStep). o.after) e
attach_granted w t None None false d v e = ap (λ (o : AfterStep). o.after) e
attach_granted w t None (Some k) false d v e = absurd (grind (arith, e))

-- one thread more was attached
pub attached_more : (o w v : WorldState) (k : ℕ) (room : Bool) (d : Did) → w ≡ attached o k
    → record { answer = Ok d; after = v } ≡ step_of room w (step.Attach (thread_of k))
    → v ≡ attached o (k + 1)
attached_more o w v k room d e h =
    let g : record { answer = Ok d; after = v } ≡ step_of room (attached o k) (step.Attach (thread_of k)) = rw e at h in
    rw add-one (attach_granted (attached o k) (thread_of k) (berth_of (attached o k).berths (thread_of k)) (free_berth (attached o k).berths) room d v g)

-- a step that was accepted and told of no want of memory
pub granted_step : (w v : WorldState) (x : Step) (room : Bool) (d : Did)
    → record { answer = Ok d; after = v } ≡ step_of room w x → wants_memory d.atomic ≡ false
    → step_of true w x ≡ record { answer = Ok d; after = v }
granted_step w v x true d e h = sym e
granted_step w v x false d e h = sym (rw e (step_same w x d (sym (ap (λ (o : AfterStep). o.answer) e)) h))

-- a choice was made
pub made : (p : Program) (s : ProgramState) (c : Choice) (x : Step) (v : WorldState) (room : Bool) (d : Did)
    → step_for p s c ≡ Some x → record { answer = Ok d; after = v } ≡ step_of room s.world x
    → wants_memory d.atomic ≡ false → after p s c ≡ Some (replied (moved s c v) (chosen c) d.reply)
made p s c x v room d e g h =
    rw e (ap (λ (o : AfterStep). after_answer s c o.answer o.after) (granted_step s.world v x room d g h))

-- and tells what its step did
pub told : (p : Program) (s : ProgramState) (c : Choice) (x : Step) (v : WorldState) (room : Bool) (d : Did)
    → step_for p s c ≡ Some x → record { answer = Ok d; after = v } ≡ step_of room s.world x
    → wants_memory d.atomic ≡ false → Some d ≡ did_of p s c
told p s c x v room d e g h =
    rw e (ap (λ (o : AfterStep). did_in o.answer) (sym (granted_step s.world v x room d g h)))
