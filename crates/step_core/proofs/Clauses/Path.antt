-- A Go is one step on the path of its call.
use Rattle.std.specs.Prelude.{◌≡◌, ℕ, ◌+◌, Bool, true, false, Option, Some, None, Result, Ok, Err, IfOk, MatchResult, MatchOption, nat_lt, length}
use Rattle.std.proofs.Common.{refl, sym, ◌∙◌, get_or-set_same}
use Rattle.std.proofs.lemmas.Bool.{cond_both}
use Rattle.lock_word.specs.declared.ThreadId.{ThreadId}
use Rattle.lock_word.specs.declared.ObjectId.{ObjectId}
use Rattle.lock_word.specs.declared.Lock.{Lock}
use Rattle.lock_word.specs.declared.Lock.TheVariants.{Free, Thin, Fat}
use Rattle.thread_index.specs.Indices.{berth_of}
use Rattle.fat_monitor.specs.declared.actions.Cause.{Cause}
use Rattle.fat_monitor.specs.declared.actions.Answer.{Answer}
use Rattle.fat_monitor.specs.declared.actions.Answer.TheVariants as answer
use Rattle.fat_monitor.specs.declared.actions.Action.{Action}
use Rattle.fat_monitor.specs.declared.actions.Done.{Done}
use Rattle.fat_monitor.specs.declared.actions.ActFault.{ActFault}
use Rattle.fat_monitor.specs.declared.actions.Post.TheVariants.{Out}
use Rattle.fat_monitor.specs.FatState.{FatState, with_post, owns_one}
use Rattle.fat_monitor.specs.Acting.{outcome_of}
use Rattle.fast_path.specs.declared.calls.Call.{Call}
use Rattle.fast_path.specs.declared.Next.{Next}
use Rattle.fast_path.specs.declared.Next.TheVariants as next
use Rattle.fast_path.specs.declared.calls.MonitorCall.{MonitorCall}
use Rattle.fast_path.specs.Calls.{call_of, call_about}
use Rattle.fast_path.specs.Table.{next_of}
use Rattle.step_core.specs.declared.places.Place.TheVariants.{Idle, InCall, Ending, AtPost}
use Rattle.step_core.specs.declared.places.Stage.{Stage}
use Rattle.step_core.specs.declared.places.Stage.TheVariants.{Begun, Taking, Storing, Binding, Acting, Won, Bound, Inflated, Direct}
use Rattle.step_core.specs.declared.paths.Point.{Point}
use Rattle.step_core.specs.declared.paths.Point.TheVariants.{At}
use Rattle.step_core.specs.declared.steps.Did.{Did}
use Rattle.step_core.specs.declared.steps.Step.{Step}
use Rattle.step_core.specs.declared.steps.Step.TheVariants as step
use Rattle.step_core.specs.declared.steps.Fault.{Fault}
use Rattle.step_core.specs.declared.places.Place.{Place}
use Rattle.step_core.specs.World.{WorldState, is_own, place_at, lock_at}
use Rattle.step_core.specs.Sound.{IsSound, FittingStage}
use Rattle.step_core.specs.Ready.{IsOwnAction}
use Rattle.step_core.specs.Did.{is_wait}
use Rattle.step_core.specs.Go.{AfterGo, with_go, after_load, after_take, after_bind, after_publish, after_told, after_act, after_look_as, after_stage, action_on, action_about, entering, bind_cause, fats_changed}
use Rattle.step_core.specs.Step.{AfterStep, accept, after_go, after_look, step_of}
use Rattle.step_core.specs.Path.{IsBindCause, IsTold, IsAct, Follows, point_acted, point_after, point_of, StepsOnPath}
use Rattle.step_core.proofs.Facts.Cases.{ended_as, did_return, go_cases}
use Rattle.step_core.proofs.Facts.OneThread.{within}
use Rattle.step_core.proofs.Clauses.Patient.{done, own_on, own_about}

-- an accepted step is on the path of its call
abbrev OnPath : WorldState → Step → AfterStep → Type 0
OnPath w s o = IfOk o.answer (λ d. StepsOnPath w s d o.after)

module _ (w : WorldState) (k : ℕ) (t : ThreadId) where
  -- what a Go leaves is one step of a path from this point
  abbrev Goes : Point → AfterGo → Type 0
  Goes p a = Follows w.split (k + 1) p a.did.atomic × (point_after w.split (k + 1) p a.did.atomic ≡ point_of a.did.reply a.place)

  loads : (c : MonitorCall) (b : Bool) (n : Next) → next_of w.split c.operation (lock_at w c.object.0) (k + 1) ≡ n
      → Goes (At (InCall (Begun c b))) (after_load w t c b n)
  loads c b (next.Reply r) e = (refl, rw e refl)
  loads c b (next.Cas l) e = (refl, rw e refl)
  loads c b (next.Store l) e = (refl, rw e refl)
  loads c b next.Bind e = (refl, rw e refl)
  loads c b (next.Fat m) e = (refl, rw e refl)
  loads c b next.Spin e = (refl, rw e refl)

  takes : (o : ObjectId) (b : Bool) (l : Lock) → lock_at w o.0 ≡ l → Goes (At (InCall (Taking o b))) (after_take w k t o b l)
  takes o true Free e = ((refl, e, refl), refl)
  takes o false Free e = ((refl, e, refl), refl)
  takes o true (Thin i n) e = ((refl, λ free. let never = sym e ∙ free in cc), refl)
  takes o false (Thin i n) e = ((refl, λ free. let never = sym e ∙ free in cc), refl)
  takes o true (Fat m) e = ((refl, λ free. let never = sym e ∙ free in cc), refl)
  takes o false (Fat m) e = ((refl, λ free. let never = sym e ∙ free in cc), refl)

  -- if a bind is refused, then for one of its causes
  abbrev MayBind : Option Cause → Type 0
  MayBind refusal = MatchOption refusal (Unit {0}) IsBindCause

  causes : (room : Bool) → MayBind (bind_cause room w.fats)
  causes true = cond_both (nat_lt (length w.fats.monitors) w.fats.limit) _ _ MayBind (λ _. tt) (λ _. tt)
  causes false = cond_both (nat_lt (length w.fats.monitors) w.fats.limit) _ _ MayBind (λ _. tt) (λ _. tt)

  binds : (c : MonitorCall) (n : ℕ) (refusal : Option Cause) → MayBind refusal
      → Goes (At (InCall (Binding c n))) (after_bind w t c false (n + 1) refusal)
  binds c n None may = (refl, refl)
  binds c n (Some x) may = ((refl, may), refl)

  binds_won : (o : ObjectId) (refusal : Option Cause) → MayBind refusal → Goes (At (InCall (Won o))) (after_bind w t (entering o) true 1 refusal)
  binds_won o None may = (refl, refl)
  binds_won o (Some x) may = ((refl, may), refl)

  publishes : (c : MonitorCall) (won : Bool) (m n : ℕ) → lock_at w c.object.0 ≡ Thin (k + 1) n
      → Goes (At (InCall (Bound c won m))) (after_publish w t c won m)
  publishes c true m n e = ((refl, (n, e), refl), refl)
  publishes c false m n e = ((refl, (n, e), refl), refl)

  -- what is left is told by this action
  abbrev Acts : Action → AfterGo → Type 0
  Acts b a = IsAct b a.did.atomic × (point_acted a.did.atomic ≡ point_of a.did.reply a.place)

  acts : (c : Call) (a : Action) (f : FatState) (x : Answer) (g chosen : Option ThreadId) → IsTold x
      → Acts a (after_told w t c a (Ok (record { answer = x; granted = g; chosen = chosen })) f)
  acts c a f (answer.Reply r) None chosen h = ((refl, tt), refl)
  acts c a f (answer.Reply r) (Some u) chosen h = ((refl, tt), refl)
  acts c a f answer.Quiet g chosen h = absurd h
  acts c a f answer.Parked g chosen h =
      cond_both (is_wait c) _ _ (λ (d : Did). IsAct a d.atomic × (point_acted d.atomic ≡ point_of d.reply AtPost))
      (λ _. ((refl, tt), refl)) (λ _. ((refl, tt), refl))

  tells : (c : Call) (a : Action) (r : Result Done ActFault) (f : FatState) → MatchResult r (λ d. IsTold d.answer) (λ e. ⊥)
      → Acts a (after_told w t c a r f)
  tells c a (Ok d) f h = acts c a f d.answer d.granted d.chosen h
  tells c a (Err e) f h = absurd h

  acts_at : (c : Call) (a : Action) → IsOwnAction a → Acts a (after_act w t c a)
  acts_at c a own = tells c a (outcome_of w.fats t a).answer (outcome_of w.fats t a).after (done w.fats t a own)

  stages : (room : Bool) (s : Stage) → FittingStage w k s → Goes (At (InCall s)) (after_stage room w k t s)
  stages room (Begun c b) fits = loads c b (next_of w.split c.operation (lock_at w c.object.0) (k + 1)) refl
  stages room (Taking o b) fits = takes o b (lock_at w o.0) refl
  stages room (Storing c l) fits = ((refl, fits.1, refl), refl)
  stages room (Binding c n) fits = binds c n (bind_cause room w.fats) (causes room)
  stages room (Acting c m) fits = acts_at (call_of c) (action_on c.operation m) (own_on c.operation m)
  stages room (Won o) fits = binds_won o (bind_cause room w.fats) (causes room)
  stages room (Bound c won m) fits = publishes c won m fits.2.0 fits.2.1
  stages room (Inflated c m) fits = acts_at (call_of c) (action_on c.operation m) (own_on c.operation m)
  stages room (Direct c) fits = acts_at (call_about c) (action_about c) (own_about c)

  looks : (n : ℕ) (own : Bool) → is_own (lock_at w n) (k + 1) ≡ own → Goes (At (Ending n)) (after_look_as w t n own)
  looks n true e = (refl, rw e refl)
  looks n false e = (refl, rw e refl)

module _ (w : WorldState) (sound : IsSound w) (k : ℕ) (t : ThreadId) (berth : berth_of w.berths t ≡ Some k) where
  -- the Go is of the thread's own place, and leaves it there
  steps : (p : Place) (a : AfterGo) → place_at w k ≡ p → Goes w k t (At p) a → OnPath w (step.Go t) (accept (with_go w k a) a.did)
  steps p a at h = rw (berth, at, get_or-set_same w.places k a.place Idle (within w sound k t berth)) h

  ends : (n : ℕ) (owns : Bool) → place_at w k ≡ Ending n → OnPath w (step.Go t) (ended_as w k t owns)
  ends n true at = rw (berth, at) (tt, refl)
  ends n false at = rw (berth, at) (tt, refl)

goes : (w : WorldState) → IsSound w → (t : ThreadId) (room : Bool) → OnPath w (step.Go t) (after_go room w t (berth_of w.berths t))
goes w sound t room = go_cases w sound t (OnPath w (step.Go t))
    (λ none. tt)
    (λ k berth at. tt)
    (λ k berth out room s at fit. steps w sound k t berth (InCall s) (after_stage room w k t s) at (stages w k t room s fit))
    (λ k berth out n at more. steps w sound k t berth (Ending n) (after_look w k t n) at (looks w k t n (is_own (lock_at w n) (k + 1)) refl))
    (λ k berth out n at all. ends w sound k t berth n (owns_one w.fats.monitors t) at)
    (λ k berth at stands. tt)
    (λ k berth r at granted. steps w sound k t berth AtPost (fats_changed w (with_post w.fats t Out) Idle (did_return t r)) at (tt, refl))
    room

no_call : (w : WorldState) (s : Step) (o : AfterStep) → ((d : Did) → StepsOnPath w s d o.after) → OnPath w s o
no_call w s o h = by_answer o.answer
  where
    by_answer : (r : Result Did Fault) → IfOk r (λ d. StepsOnPath w s d o.after)
    by_answer (Ok d) = h d
    by_answer (Err e) = tt

-- Each accepted step is on the path of its call.
pub step_on_path : (w : WorldState) → IsSound w → (room : Bool) (s : Step) → IfOk (step_of room w s).answer (λ d. StepsOnPath w s d (step_of room w s).after)
step_on_path w sound room (step.Attach t) = no_call w (step.Attach t) (step_of room w (step.Attach t)) (λ d. tt)
step_on_path w sound room (step.Begin t c) = no_call w (step.Begin t c) (step_of room w (step.Begin t c)) (λ d. tt)
step_on_path w sound room (step.Go t) = goes w sound t room
step_on_path w sound room (step.Expire t) = no_call w (step.Expire t) (step_of room w (step.Expire t)) (λ d. tt)
step_on_path w sound room (step.Spurious t) = no_call w (step.Spurious t) (step_of room w (step.Spurious t)) (λ d. tt)
step_on_path w sound room (step.Tick now) = no_call w (step.Tick now) (step_of room w (step.Tick now)) (λ d. tt)
