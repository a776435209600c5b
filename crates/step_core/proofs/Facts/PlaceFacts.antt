-- Facts about the place of a thread: what it shows there, what it has bound, and when it still fits there.
use Rattle.std.specs.Prelude.{◌≡◌, ◌↔◌, ℕ, ◌+◌, ◌<◌, Bool, true, false, length, Option, Some}
use Rattle.std.proofs.Common.{refl, ap}
use Rattle.lock_word.specs.declared.ObjectId.{ObjectId}
use Rattle.lock_word.specs.declared.Lock.TheVariants.{Thin, Fat}
use Rattle.thread_index.specs.Indices.{holder_at}
use Rattle.fat_monitor.specs.declared.actions.Post.{Post}
use Rattle.fat_monitor.specs.declared.actions.Post.TheVariants.{Out}
use Rattle.fat_monitor.specs.declared.actions.Reply.TheVariants.{Entered}
use Rattle.fat_monitor.specs.declared.monitors.Monitor as fat
use Rattle.fat_monitor.specs.declared.actions.Why.{Why}
use Rattle.fat_monitor.specs.FatState.{monitor_at}
use Rattle.fast_path.specs.declared.calls.Call.{Call}
use Rattle.fast_path.specs.declared.calls.Call.TheVariants as call
use Rattle.fast_path.specs.declared.calls.MonitorCall.{MonitorCall}
use Rattle.fast_path.specs.Calls.{call_of, call_about}
use Rattle.step_core.specs.declared.machine.Doing.{Doing}
use Rattle.step_core.specs.declared.machine.Doing.TheVariants as doing
use Rattle.step_core.specs.declared.places.Place.{Place}
use Rattle.step_core.specs.declared.places.Place.TheVariants.{Idle, InCall, Ending, AtPost}
use Rattle.step_core.specs.declared.places.Stage.{Stage}
use Rattle.step_core.specs.declared.places.Stage.TheVariants.{Begun, Taking, Storing, Binding, Acting, Won, Bound, Inflated, Direct}
use Rattle.step_core.specs.Machine.{after_notify_all, after_interrupt}
use Rattle.step_core.specs.World.{WorldState, lock_at, is_own}
use Rattle.step_core.specs.Shown.{doing_of, doing_in}
use Rattle.step_core.specs.Sound.{Fitting, FittingStage, Agrees, bound_by}

-- A thread at a stage of a call wants the call, or has entered.
pub stage_does : (P : Doing → Type 0) → ((c : Call) → P (doing.Wants c)) → P (doing.Has Entered) → (s : Stage) → P (doing_in s)
stage_does P wants has (Begun c b) = wants (call_of c)
stage_does P wants has (Taking o b) = wants (call.Enter o)
stage_does P wants has (Storing c l) = wants (call_of c)
stage_does P wants has (Binding c n) = wants (call_of c)
stage_does P wants has (Acting c m) = wants (call_of c)
stage_does P wants has (Won o) = has
stage_does P wants has (Bound c true m) = has
stage_does P wants has (Bound c false m) = wants (call_of c)
stage_does P wants has (Inflated c m) = wants (call_of c)
stage_does P wants has (Direct c) = wants (call_about c)

-- A thread that is out of every fat action is in no call, wants one, or has entered.
pub out_does : (P : Doing → Type 0) → P doing.Idle → ((c : Call) → P (doing.Wants c)) → P (doing.Has Entered) → (p : Place) → P (doing_of p)
out_does P idle wants has Idle = idle
out_does P idle wants has (InCall s) = stage_does P wants has s
out_does P idle wants has (Ending n) = wants call.End
out_does P idle wants has AtPost = idle

-- so it does not wait
pub not_waiting : (p : Place) {o : ObjectId} {n : ℕ} {d : Option ℕ} → doing_of p ≡ doing.Waits o n d → ⊥
not_waiting p {o} {n} {d} =
    out_does (λ x. x ≡ doing.Waits o n d → ⊥) (λ e. cc) (λ c e. cc) (λ e. cc) p

-- nor is it back from a wait: only a post shows that
pub not_back : (p : Place) {o : ObjectId} {n : ℕ} {w : Why} → doing_of p ≡ doing.Back o n w → ⊥
not_back p {o} {n} {w} = out_does (λ x. x ≡ doing.Back o n w → ⊥) (λ e. cc) (λ c e. cc) (λ e. cc) p

-- and neither a notifyAll nor an interrupt changes what it does
pub woken_out : (o : ObjectId) (p : Place) → after_notify_all o (doing_of p) ≡ doing_of p
woken_out o = out_does (λ d. after_notify_all o d ≡ d) refl (λ c. refl) refl

pub stirred_out : (p : Place) → after_interrupt (doing_of p) ≡ doing_of p
stirred_out = out_does (λ d. after_interrupt d ≡ d) refl (λ c. refl) refl

-- a thread in a call is not idle
pub not_idle : (s : Stage) → doing_in s ≡ doing.Idle → ⊥
not_idle = stage_does (λ d. d ≡ doing.Idle → ⊥) (λ c e. cc) (λ e. cc)

-- Who has bound a monitor and not stored it stands at the store.
pub who_bound : (p : Place) (m : ℕ) → bound_by p ≡ Some m → (c : MonitorCall) × (won : Bool) × (p ≡ InCall (Bound c won m))
who_bound Idle m e = absurd (cc)
who_bound (InCall (Begun c b)) m e = absurd (cc)
who_bound (InCall (Taking o b)) m e = absurd (cc)
who_bound (InCall (Storing c l)) m e = absurd (cc)
who_bound (InCall (Binding c n)) m e = absurd (cc)
who_bound (InCall (Acting c x)) m e = absurd (cc)
who_bound (InCall (Won o)) m e = absurd (cc)
who_bound (InCall (Bound c won x)) m e = (c, won, cc)
who_bound (InCall (Inflated c x)) m e = absurd (cc)
who_bound (InCall (Direct c)) m e = absurd (cc)
who_bound (Ending n) m e = absurd (cc)
who_bound AtPost m e = absurd (cc)

-- a thread that is not at its post is out of every fat action
pub agrees_out : (p : Place) (x : Option Post) → (p ≡ AtPost → ⊥) → Agrees p x → x ≡ Some Out
agrees_out Idle x free h = h
agrees_out (InCall s) x free h = h
agrees_out (Ending n) x free h = h
agrees_out AtPost x free h = absurd (free refl)

-- a place agrees with the one post as with the other
pub agrees_kept : (p : Place) (x y : Option Post) → (y ≡ Some Out) ↔ (x ≡ Some Out) → Agrees p x → Agrees p y
agrees_kept Idle x y same h = same.1 h
agrees_kept (InCall s) x y same h = same.1 h
agrees_kept (Ending n) x y same h = same.1 h
agrees_kept AtPost x y same h = λ e. h (same.0 e)

-- a monitor that is bound and not stored, in the same fat state
pub bound_kept : (w : WorldState) (j : ℕ) (c : MonitorCall) (won : Bool) (m : ℕ) → FittingStage w j (Bound c won m)
    → (m < length w.fats.monitors)
    × (monitor_at w.fats m ≡ record { object = c.object; owner = holder_at w.berths j; holds = (monitor_at w.fats m).holds })
bound_kept w j c won m fit =
    let holds : (monitor_at w.fats m).holds ≡ fit.2.0 + 1 = ap (λ (x : fat.Monitor). x.holds) fit.2.2 in (fit.1, rw holds fit.2.2)

-- A thread still fits where there are as many objects, where the thin words of its index and the fat words stay, and
-- where a monitor that it has bound and not stored is as it was.
module _ (w w' : WorldState) (j : ℕ) (split : w'.split ≡ w.split) (size : length w'.words ≡ length w.words)
    (thin : (q n : ℕ) → lock_at w q ≡ Thin (j + 1) n → lock_at w' q ≡ Thin (j + 1) n)
    (fat : (q m : ℕ) → lock_at w q ≡ Fat m → lock_at w' q ≡ Fat m)
    (bound : (c : MonitorCall) (won : Bool) (m : ℕ) → FittingStage w j (Bound c won m)
    → (m < length w'.fats.monitors)
    × (monitor_at w'.fats m ≡ record { object = c.object; owner = holder_at w'.berths j; holds = (monitor_at w.fats m).holds }))
    (ends : (q : ℕ) → is_own (lock_at w q) (j + 1) ≡ false → is_own (lock_at w' q) (j + 1) ≡ false) where
  inside : (n : ℕ) → n < length w.words → n < length w'.words
  inside n h = rw size h

  stage_kept : (s : Stage) → FittingStage w j s → FittingStage w' j s
  stage_kept (Begun c b) fit = inside c.object.0 fit
  stage_kept (Taking o b) fit = inside o.0 fit
  stage_kept (Storing c l) fit = (inside c.object.0 fit.0, (fit.1.0, thin c.object.0 fit.1.0 fit.1.1, rw split fit.1.2))
  stage_kept (Binding c n) fit = (inside c.object.0 fit.0, thin c.object.0 n fit.1, rw split fit.2)
  stage_kept (Acting c m) fit = (inside c.object.0 fit.0, fat c.object.0 m fit.1)
  stage_kept (Won o) fit = (inside o.0 fit.0, thin o.0 0 fit.1)
  stage_kept (Bound c won m) fit =
      let kept = bound c won m fit in
      let holds : (monitor_at w.fats m).holds ≡ fit.2.0 + 1 = rw fit.2.2 refl in
      (inside c.object.0 fit.0, kept.0, (fit.2.0, thin c.object.0 fit.2.0 fit.2.1, rw holds at kept.1))
  stage_kept (Inflated c m) fit = (inside c.object.0 fit.0, fat c.object.0 m fit.1)
  stage_kept (Direct c) fit = fit

  pub fitting_kept : (p : Place) → Fitting w j p → Fitting w' j p
  fitting_kept Idle fit = fit
  fitting_kept (InCall s) fit = stage_kept s fit
  fitting_kept (Ending n) fit = (rw size fit.0, λ q h. ends q (fit.1 q h))
  fitting_kept AtPost fit = fit
