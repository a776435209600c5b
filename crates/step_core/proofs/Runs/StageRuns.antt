-- Each Go is a run of the machine on the shown states.
use Rattle.std.specs.Prelude.{◌≡◌, ℕ, ◌+◌, ◌<◌, ◌≤◌, Bool, true, false, length, Some}
use Rattle.std.proofs.Common.{arith, refl, ap, sym, subst}
use Rattle.lock_word.specs.declared.ThreadId.{ThreadId}
use Rattle.lock_word.specs.declared.Lock.{Lock}
use Rattle.lock_word.specs.declared.Lock.TheVariants.{Thin}
use Rattle.thread_index.specs.Indices.{berth_of}
use Rattle.lock_word.specs.declared.ObjectId.{ObjectId}
use Rattle.fast_path.specs.declared.calls.Operation.{Operation}
use Rattle.fast_path.specs.declared.calls.Operation.TheVariants as op
use Rattle.fast_path.specs.declared.calls.MonitorCall.{MonitorCall}
use Rattle.fast_path.specs.Calls.{call_on, call_of}
use Rattle.fast_path.specs.declared.calls.Call.TheVariants as call
use Rattle.fast_path.specs.Table.{next_of}
use Rattle.fast_path.proofs.Tables.{StoresOwn, store_own, BindsOwn, bind_own}
use Rattle.step_core.specs.declared.places.Place.TheVariants.{InCall}
use Rattle.step_core.specs.declared.places.Stage.{Stage}
use Rattle.step_core.specs.declared.places.Stage.TheVariants.{Begun, Taking, Storing, Binding, Acting, Won, Bound, Inflated, Direct}
use Rattle.fat_monitor.specs.declared.actions.Cause.{Cause}
use Rattle.fat_monitor.specs.declared.actions.Cause.TheVariants as cause
use Rattle.fat_monitor.specs.declared.actions.Post.TheVariants.{Out}
use Rattle.fat_monitor.specs.FatState.{post_of}
use Rattle.step_core.specs.Machine.{Monitor, Run, OwnedBy, MayRefuse}
use Rattle.step_core.specs.World.{WorldState, place_at, lock_at}
use Rattle.step_core.specs.Sound.{IsSound, FittingStage, bound_by}
use Rattle.step_core.specs.Go.{with_go, after_stage, bind_cause, entering}
use Rattle.step_core.specs.Step.{moves_made}
use Rattle.step_core.specs.Shown.{shown}
use Rattle.step_core.proofs.Facts.OneThread.{stands_at, is_at, mine}
use Rattle.step_core.proofs.Runs.WordRuns.{load_facts, load_run, take_run, store_run, bind_run, publish_run, causes, good_time}
use Rattle.step_core.proofs.Runs.NotifyRuns.{act_run}
use Rattle.step_core.proofs.Runs.InterruptRuns.{direct_run}

-- want of a monitor or of memory
abbrev IsScarce : Cause → Type 0
IsScarce cause.NoMonitor = Unit {0}
IsScarce cause.Memory = Unit {0}
IsScarce cause.TooDeep = ⊥
IsScarce cause.StillOwner = ⊥
IsScarce cause.NoThread = ⊥

-- what a store that was found overwrites
pub storing : (w : WorldState) (k : ℕ) (c : MonitorCall) (l : Lock) → FittingStage w k (Storing c l) → StoresOwn w.split (k + 1) (lock_at w c.object.0) l c.operation
storing w k c l fit =
    subst (λ (x : Lock). StoresOwn w.split (k + 1) x l c.operation) (sym fit.1.1) (store_own w.split c.operation (Thin (k + 1) fit.1.0) l (k + 1) fit.1.2)

module _ (w : WorldState) (sound : IsSound w) (k : ℕ) (t : ThreadId) (berth : berth_of w.berths t ≡ Some k) (out : post_of w.fats t ≡ Some Out) where
  owner_here : (c : MonitorCall) (n : ℕ) → lock_at w c.object.0 ≡ Thin (k + 1) n → OwnedBy (shown w) c.object t
  owner_here c n e = rw e (ap (λ (m : Monitor). m.owner) (mine w sound k t berth n))

  -- a bind that is refused may be refused: the thread is the owner, and the time of its wait is in its range
  may_refuse : (o : ObjectId) (p : Operation) (n : ℕ) (x : Cause) → IsScarce x → BindsOwn w.split (k + 1) (Thin (k + 1) n) p → OwnedBy (shown w) o t
      → MayRefuse (shown w) t (call_on o p) x
  may_refuse o op.Enter n cause.NoMonitor scarce binds own = own
  may_refuse o op.Enter n cause.Memory scarce binds own = own
  may_refuse o (op.Wait millis nanos) n cause.NoMonitor scarce binds own = (own, good_time millis nanos binds.2)
  may_refuse o (op.Wait millis nanos) n cause.Memory scarce binds own = (own, good_time millis nanos binds.2)
  may_refuse o p n cause.TooDeep scarce binds own = absurd scarce
  may_refuse o p n cause.StillOwner scarce binds own = absurd scarce
  may_refuse o p n cause.NoThread scarce binds own = absurd scarce
  may_refuse o op.Exit n x scarce binds own = absurd binds
  may_refuse o op.Notify n x scarce binds own = absurd binds
  may_refuse o op.NotifyAll n x scarce binds own = absurd binds
  may_refuse o op.Holds n x scarce binds own = absurd binds

  -- A Go from a stage of a call is a run.
  pub stage_run : (room : Bool) (s : Stage) → place_at w k ≡ InCall s → FittingStage w k s
      → Run (shown w) (moves_made (after_stage room w k t s).did.moves) (shown (with_go w k (after_stage room w k t s)))
  stage_run room (Begun c b) e fit =
      load_run w sound k t berth out c b (next_of w.split c.operation (lock_at w c.object.0) (k + 1)) e
      (load_facts w sound k t berth out c (lock_at w c.object.0) (is_at w sound k t berth (InCall (Begun c b)) e out) refl (stands_at w sound c.object.0) (ap bound_by e))
  stage_run room (Taking o b) e fit = take_run w sound k t berth out o b (lock_at w o.0) e fit refl
  stage_run room (Storing c l) e fit = store_run w sound k t berth out c l e fit.0 (storing w k c l fit)
  stage_run room (Binding c n) e fit =
      let own : OwnedBy (shown w) c.object t = owner_here c n fit.1 in
      let binds : BindsOwn w.split (k + 1) (Thin (k + 1) n) c.operation = bind_own w.split c.operation (Thin (k + 1) n) (k + 1) fit.2 in
      bind_run w sound k t berth out c false (n + 1) (InCall (Binding c n)) (bind_cause room w.fats) e refl
      (causes w sound k t berth out room (λ x. false ≡ false → MayRefuse (shown w) t (call_of c) x)
      (λ _. may_refuse c.object c.operation n cause.NoMonitor tt binds own) (λ _. may_refuse c.object c.operation n cause.Memory tt binds own))
  stage_run room (Acting c m) e fit = act_run w sound k t berth out c m (InCall (Acting c m)) e refl fit.1
  stage_run room (Won o) e fit =
      bind_run w sound k t berth out (entering o) true 1 (InCall (Won o)) (bind_cause room w.fats) e refl
      (causes w sound k t berth out room (λ x. true ≡ false → MayRefuse (shown w) t (call.Enter o) x) (λ h. absurd (cc)) (λ h. absurd (cc)))
  stage_run room (Bound c won m) e fit =
      let a : m < length w.fats.monitors = fit.1 in let b : length w.fats.monitors ≤ w.fats.limit = sound.fats.few in let l : w.fats.limit ≤ 8388608 = sound.fats.limit in
      publish_run w sound k t berth out c won m e fit (omega arith)
  stage_run room (Inflated c m) e fit = act_run w sound k t berth out c m (InCall (Inflated c m)) e refl fit.1
  stage_run room (Direct c) e fit = direct_run w sound k t berth out c e
