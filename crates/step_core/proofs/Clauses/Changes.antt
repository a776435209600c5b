-- Each accepted step makes the one change that its atomic step names.
use Rattle.std.specs.Prelude.{◌≡◌, ℕ, ◌+◌, ◌<◌, Bool, true, false, nat_lt, length, Option, Some, None, IfOk, MatchResult, Result, Ok, Err}
use Rattle.std.proofs.Common.{refl, arith, ap, sym, ◌∙◌}
use Rattle.std.proofs.lemmas.Bool.{cond_both}
use Rattle.lock_word.specs.declared.ThreadId.{ThreadId}
use Rattle.lock_word.specs.declared.ObjectId.{ObjectId}
use Rattle.lock_word.specs.declared.Lock.{Lock}
use Rattle.lock_word.specs.declared.Lock.TheVariants.{Free, Thin, Fat}
use Rattle.lock_word.specs.Layout.{Fits, low_of}
use Rattle.lock_word.proofs.Words.{low_kept}
use Rattle.thread_index.specs.Indices.{berth_of, free_berth}
use Rattle.fat_monitor.specs.declared.actions.Cause.{Cause}
use Rattle.fat_monitor.specs.declared.actions.Cause.TheVariants as cause
use Rattle.fat_monitor.specs.declared.actions.Reply.TheVariants as reply
use Rattle.fat_monitor.specs.declared.actions.Action.{Action}
use Rattle.fat_monitor.specs.declared.actions.Action.TheVariants as action
use Rattle.fat_monitor.specs.declared.actions.Answer.{Answer}
use Rattle.fat_monitor.specs.declared.actions.Answer.TheVariants as answer
use Rattle.fat_monitor.specs.declared.actions.Done.{Done}
use Rattle.fat_monitor.specs.declared.actions.ActFault.{ActFault}
use Rattle.fat_monitor.specs.declared.actions.Post.{Post}
use Rattle.fat_monitor.specs.declared.actions.Post.TheVariants.{Out, Entering, Waiting, Back, Granted}
use Rattle.fat_monitor.specs.FatState.{with_moment, post_of, post_at, owns_one}
use Rattle.fat_monitor.specs.Acting.{Outcome as FatOutcome, outcome_of, MayAct, NamesBound, expire_outcome, spurious_outcome}
use Rattle.fast_path.specs.declared.calls.Call.{Call}
use Rattle.fast_path.specs.declared.calls.MonitorCall.{MonitorCall}
use Rattle.fast_path.specs.declared.calls.InterruptCall.{InterruptCall}
use Rattle.fast_path.specs.declared.calls.InterruptCall.TheVariants as about
use Rattle.fast_path.specs.declared.Next.{Next}
use Rattle.fast_path.specs.declared.Next.TheVariants as next
use Rattle.fast_path.specs.Calls.{call_of, call_about}
use Rattle.fast_path.specs.Table.{next_of}
use Rattle.step_core.specs.declared.machine.Move.TheVariants as move
use Rattle.step_core.specs.declared.places.Stage.{Stage}
use Rattle.step_core.specs.declared.places.Stage.TheVariants.{Begun, Taking, Storing, Binding, Acting, Won, Bound, Inflated, Direct}
use Rattle.step_core.specs.declared.steps.Atomic.TheVariants.{Label}
use Rattle.step_core.specs.declared.steps.Did.{Did}
use Rattle.step_core.specs.declared.steps.Fault.TheVariants as fault
use Rattle.step_core.specs.declared.steps.Step.{Step}
use Rattle.step_core.specs.declared.steps.Step.TheVariants as step
use Rattle.step_core.specs.World.{WorldState, is_own, word_at, lock_at}
use Rattle.step_core.specs.Sound.{IsSound, FittingStage}
use Rattle.step_core.specs.Ready.{IsOwnAction}
use Rattle.step_core.specs.Did.{one_move, is_wait}
use Rattle.step_core.specs.Go.{with_go, new_word, after_load, after_take, after_bind, after_publish, after_told, after_act, after_look_as, after_stage, action_on, action_about, entering, bind_cause}
use Rattle.step_core.specs.Step.{AfterStep, accept, refuse, after_attach, after_begin, after_go, time_over, wake_up, after_wait_end, after_wait_end_as, after_tick, step_of}
use Rattle.step_core.specs.Changes.{IsOwn, GoChanges, Changes}
use Rattle.step_core.proofs.Facts.OneThread.{thin_fits, lock_of-new_word}
use Rattle.step_core.proofs.Facts.Cases.{ended_as, begin_cases, go_cases}
use Rattle.step_core.proofs.Runs.StageRuns.{storing}
use Rattle.step_core.proofs.Sound.Stages.{store_fits, number_fits, bound_there, may}
use Rattle.step_core.proofs.Clauses.Patient.{done, own_on}
use Rattle.step_core.specs.Path.{IsTold}

-- an accepted step made the change that it names
abbrev Named : WorldState → Step → AfterStep → Type 0
Named w s o = IfOk o.answer (λ d. Changes w s d.atomic o.after)

module _ (w : WorldState) (sound : IsSound w) (k : ℕ) (t : ThreadId) (berth : berth_of w.berths t ≡ Some k) (out : post_of w.fats t ≡ Some Out) where
  -- a thin lock with the index of the berth is the thread's own
  own : (l : Lock) (n : ℕ) → l ≡ Thin (k + 1) n → IsOwn w t l n
  own l n e = (k + 1, rw berth refl, e)

  -- another lock keeps the low byte
  low : (o : ObjectId) (l : Lock) → Fits w.split l → low_of (new_word w o l).0 ≡ low_of (word_at w o.0).0
  low o l fits = low_kept w.split (word_at w o.0).0 l

  loads : (c : MonitorCall) (b : Bool) (n : Next) → c.object.0 < length w.words
      → GoChanges w t (after_load w t c b n).did.atomic (with_go w k (after_load w t c b n))
  loads c b (next.Reply r) h = ((h, refl), (refl, refl))
  loads c b (next.Cas l) h = ((h, refl), (refl, refl))
  loads c b (next.Store l) h = ((h, refl), (refl, refl))
  loads c b next.Bind h = ((h, refl), (refl, refl))
  loads c b (next.Fat m) h = ((h, refl), (refl, refl))
  loads c b next.Spin h = ((h, refl), (refl, refl))

  takes : (o : ObjectId) (b : Bool) (l : Lock) → o.0 < length w.words → lock_at w o.0 ≡ l
      → GoChanges w t (after_take w k t o b l).did.atomic (with_go w k (after_take w k t o b l))
  takes o true Free h e =
      let fits : Fits w.split (Thin (k + 1) 0) = thin_fits w sound k t berth 0 (omega arith) in
      ((h, refl), e, own _ 0 (lock_of-new_word w o (Thin (k + 1) 0) fits), (low o (Thin (k + 1) 0) fits, refl, refl))
  takes o false Free h e =
      let fits : Fits w.split (Thin (k + 1) 0) = thin_fits w sound k t berth 0 (omega arith) in
      ((h, refl), e, own _ 0 (lock_of-new_word w o (Thin (k + 1) 0) fits), (low o (Thin (k + 1) 0) fits, refl, refl))
  takes o b (Thin i n) h e = ((h, refl), (λ x. let never : Thin i n ≡ Free = sym e ∙ x in cc), (refl, refl))
  takes o b (Fat m) h e = ((h, refl), (λ x. let never : Fat m ≡ Free = sym e ∙ x in cc), (refl, refl))

  binds : (c : MonitorCall) (won : Bool) (n : ℕ) (refusal : Option Cause) → c.object.0 < length w.words → lock_at w c.object.0 ≡ Thin (k + 1) n
      → GoChanges w t (after_bind w t c won (n + 1) refusal).did.atomic (with_go w k (after_bind w t c won (n + 1) refusal))
  binds c won n None h e = (h, refl, (n, own _ n e, refl), refl)
  binds c true n (Some x) h e = (h, (refl, refl))
  binds c false n (Some x) h e = (h, (refl, refl))

  publishes : (c : MonitorCall) (won : Bool) (m : ℕ) → FittingStage w k (Bound c won m)
      → GoChanges w t (after_publish w t c won m).did.atomic (with_go w k (after_publish w t c won m))
  publishes c true m fit =
      ((fit.0, refl), (fit.2.0, own _ fit.2.0 fit.2.1), (low c.object (Fat m) (number_fits w sound k t berth m fit.1), refl, refl))
  publishes c false m fit =
      ((fit.0, refl), (fit.2.0, own _ fit.2.0 fit.2.1), (low c.object (Fat m) (number_fits w sound k t berth m fit.1), refl, refl))

  -- a fat action of a call, by what it told
  tells : (c : Call) (a : Action) → MayAct w.fats t a → NamesBound w.fats a → (r : Result Done ActFault) → (outcome_of w.fats t a).answer ≡ r
      → MatchResult r (λ d. IsTold d.answer) (λ e. ⊥)
      → GoChanges w t (after_told w t c a r (outcome_of w.fats t a).after).did.atomic (with_go w k (after_told w t c a r (outcome_of w.fats t a).after))
  tells c a allowed bound (Err x) e h = absurd h
  tells c a allowed bound (Ok d) e h = by_answer d.answer d.granted refl
    where
      made : (x : Answer) → d.answer ≡ x → (y : Done) × ((outcome_of w.fats t a).answer ≡ Ok y) × (y.answer ≡ x)
      made x same = (d, e, same)

      by_answer : (x : Answer) (g : Option ThreadId) → d.answer ≡ x
          → GoChanges w t (after_told w t c a (Ok (record { answer = x; granted = g; chosen = d.chosen })) (outcome_of w.fats t a).after).did.atomic
          (with_go w k (after_told w t c a (Ok (record { answer = x; granted = g; chosen = d.chosen })) (outcome_of w.fats t a).after))
      by_answer (answer.Reply r) None same = (allowed, bound, made (answer.Reply r) same, refl, refl)
      by_answer (answer.Reply r) (Some u) same = (allowed, bound, made (answer.Reply r) same, refl, refl)
      by_answer answer.Parked g same =
          cond_both (is_wait c) _ _ (λ (x : Did). GoChanges w t x.atomic (record w { places = (with_go w k (after_told w t c a (Ok (record { answer = answer.Parked; granted = g; chosen = d.chosen })) (outcome_of w.fats t a).after)).places; fats = (outcome_of w.fats t a).after }))
          (λ _. (allowed, bound, made answer.Parked same, refl, refl)) (λ _. (allowed, bound, made answer.Parked same, refl, refl))
      by_answer answer.Quiet g same = (allowed, bound, made answer.Quiet same, refl, refl)

  looks : (n : ℕ) (mine : Bool) → n < length w.words → GoChanges w t (after_look_as w t n mine).did.atomic (with_go w k (after_look_as w t n mine))
  looks n true h = ((h, refl), (refl, refl))
  looks n false h = ((h, refl), (refl, refl))

  acts : (c : Call) (a : Action) → MayAct w.fats t a → NamesBound w.fats a → IsOwnAction a
      → GoChanges w t (after_act w t c a).did.atomic (with_go w k (after_act w t c a))
  acts c a allowed bound mine = tells c a allowed bound (outcome_of w.fats t a).answer refl (done w.fats t a mine)

  acts_on : (c : MonitorCall) (m : ℕ) → lock_at w c.object.0 ≡ Fat m
      → GoChanges w t (after_act w t (call_of c) (action_on c.operation m)).did.atomic (with_go w k (after_act w t (call_of c) (action_on c.operation m)))
  acts_on c m shows =
      acts (call_of c) (action_on c.operation m) (may w sound k t berth c m shows c.operation out) (bound_there w sound k t berth c m shows c.operation) (own_on c.operation m)

  acts_about : (c : InterruptCall)
      → GoChanges w t (after_act w t (call_about c) (action_about c)).did.atomic (with_go w k (after_act w t (call_about c) (action_about c)))
  acts_about (about.Interrupt u) = acts (call_about (about.Interrupt u)) (action.Interrupt u) out tt tt
  acts_about about.Interrupted = acts (call_about about.Interrupted) action.Interrupted out tt tt
  acts_about (about.IsInterrupted u) = acts (call_about (about.IsInterrupted u)) (action.IsInterrupted u) out tt tt

  stages : (room : Bool) (s : Stage) → FittingStage w k s → GoChanges w t (after_stage room w k t s).did.atomic (with_go w k (after_stage room w k t s))
  stages room (Begun c b) fit = loads c b (next_of w.split c.operation (lock_at w c.object.0) (k + 1)) fit
  stages room (Taking o b) fit = takes o b (lock_at w o.0) fit refl
  stages room (Storing c l) fit =
      ((fit.0, refl), (fit.1.0, own _ fit.1.0 fit.1.1), (low c.object l (store_fits w sound k t berth c.object c.operation l (storing w k c l fit)), refl, refl))
  stages room (Binding c n) fit = binds c false n (bind_cause room w.fats) fit.0 fit.1
  stages room (Acting c m) fit = acts_on c m fit.1
  stages room (Won o) fit = binds (entering o) true 0 (bind_cause room w.fats) fit.0 fit.1
  stages room (Bound c won m) fit = publishes c won m fit
  stages room (Inflated c m) fit = acts_on c m fit.1
  stages room (Direct c) fit = acts_about c

  ends : (b : Bool) → owns_one w.fats.monitors t ≡ b → Named w (step.Go t) (ended_as w k t b)
  ends true e = (out, tt, (record { answer = answer.Reply (reply.Refused cause.StillOwner); granted = None; chosen = None }, rw e refl, refl), rw e refl, refl)
  ends false e = (out, tt, (record { answer = answer.Reply reply.Ended; granted = None; chosen = None }, rw e refl, refl), rw e refl, refl)

module _ (w : WorldState) (sound : IsSound w) (t : ThreadId) where
  goes : (room : Bool) → Named w (step.Go t) (after_go room w t (berth_of w.berths t))
  goes = go_cases w sound t (Named w (step.Go t))
      (λ none. tt)
      (λ k berth at. tt)
      (λ k berth out room s at fit. stages w sound k t berth out room s fit)
      (λ k berth out n at more. looks w sound k t berth out n (is_own (lock_at w n) (k + 1)) more)
      (λ k berth out n at all. ends w sound k t berth out (owns_one w.fats.monitors t) refl)
      (λ k berth at stands. tt)
      (λ k berth r at granted. (rw granted refl, tt, (record { answer = answer.Reply r; granted = None; chosen = None }, rw granted refl, refl), rw granted refl, refl))

  begins : (c : Call) → Named w (step.Begin t c) (after_begin w t c (berth_of w.berths t))
  begins c = begin_cases w t c (Named w (step.Begin t c)) (λ none. tt) (λ k o berth names past. tt) (λ k berth there busy. tt) (λ k berth there at. (refl, refl))

  attaches : (room : Bool) (o f : Option ℕ) → Named w (step.Attach t) (after_attach room w t o f)
  attaches room (Some k) f = tt
  attaches room None None = tt
  attaches true None (Some k) = (refl, refl)
  attaches false None (Some k) = tt

  -- an expiry that is accepted answers nothing
  expires_at : (p : Post) → post_at w.fats t ≡ p → Named w (step.Expire t) (after_wait_end_as time_over w t (expire_outcome w.fats t p).answer (expire_outcome w.fats t p).after)
  expires_at Out e = tt
  expires_at (Entering m) e = tt
  expires_at (Waiting m n None) e = tt
  expires_at (Waiting m n (Some d)) e =
      cond_both (nat_lt w.fats.moment d) _ _ (λ (x : FatOutcome). x ≡ outcome_of w.fats t action.Expire → Named w (step.Expire t) (after_wait_end_as time_over w t x.answer x.after))
      (λ _ _. tt) (λ _ same. (refl, ap (λ (x : FatOutcome). x.after) same)) (sym (rw e refl))
  expires_at (Back m n y) e = tt
  expires_at (Granted r) e = tt

  expires : (o : Option ℕ) → Named w (step.Expire t) (after_wait_end time_over w t o)
  expires None = tt
  expires (Some k) = expires_at (post_at w.fats t) refl

  -- and so does a spurious wake-up
  wakes_at : (p : Post) → post_at w.fats t ≡ p → Named w (step.Spurious t) (after_wait_end_as wake_up w t (spurious_outcome w.fats t p).answer (spurious_outcome w.fats t p).after)
  wakes_at Out e = tt
  wakes_at (Entering m) e = tt
  wakes_at (Waiting m n d) e = (refl, rw e refl)
  wakes_at (Back m n y) e = tt
  wakes_at (Granted r) e = tt

  wakes : (o : Option ℕ) → Named w (step.Spurious t) (after_wait_end wake_up w t o)
  wakes None = tt
  wakes (Some k) = wakes_at (post_at w.fats t) refl

ticks : (w : WorldState) (now : ℕ) → Named w (step.Tick now) (after_tick w now)
ticks w now =
    cond_both (nat_lt now w.fats.moment) (refuse w fault.Backwards) (accept (record w { fats = with_moment w.fats now }) (one_move Label (move.Time now))) (Named w (step.Tick now))
    (λ _. tt) (λ _. (refl, refl))

-- Each accepted step made the one change that it names.
pub step_changes : (w : WorldState) → IsSound w → (room : Bool) (s : Step) → IfOk (step_of room w s).answer (λ d. Changes w s d.atomic (step_of room w s).after)
step_changes w sound room (step.Attach t) = attaches w sound t room (berth_of w.berths t) (free_berth w.berths)
step_changes w sound room (step.Begin t c) = begins w sound t c
step_changes w sound room (step.Go t) = goes w sound t room
step_changes w sound room (step.Expire t) = expires w sound t (berth_of w.berths t)
step_changes w sound room (step.Spurious t) = wakes w sound t (berth_of w.berths t)
step_changes w sound room (step.Tick now) = ticks w now
