-- A Go replies, parks, meets another thread, or lowers what is left of its call; and no other thread's step does.
use Rattle.std.specs.Prelude.{◌≡◌, ◌≢◌, ◌⊎◌, ℕ, ◌+◌, ◌-◌, ◌<◌, ◌≤◌, Bool, true, false, ◌==◌, nat_lt, length, Option, Some, None, IsSome, Result, Ok, Err, IfOk, MatchResult}
use Rattle.std.proofs.Common.{refl, arith, sym, ◌∙◌, subst, inl, inr, get_or-set_same, get_or-set_other, length-set}
use Rattle.std.proofs.lemmas.Bool.{cond_both}
use Rattle.std.proofs.lemmas.Option.{same_Some}
use Rattle.lock_word.specs.declared.ThreadId.{ThreadId}
use Rattle.lock_word.specs.declared.ObjectId.{ObjectId}
use Rattle.lock_word.specs.declared.Lock.{Lock}
use Rattle.lock_word.specs.declared.Lock.TheVariants.{Free, Thin, Fat}
use Rattle.thread_index.specs.Indices.{berth_of, free_berth}
use Rattle.thread_index.proofs.Berths.{berth_found, berth_thread, free_found, berth_taken_other, berth_given_other}
use Rattle.fat_monitor.specs.declared.actions.Cause.{Cause}
use Rattle.fat_monitor.specs.declared.actions.Answer.{Answer}
use Rattle.fat_monitor.specs.declared.actions.Answer.TheVariants as answer
use Rattle.fat_monitor.specs.declared.actions.Action.TheVariants as action
use Rattle.fat_monitor.specs.declared.actions.Reply.TheVariants as reply
use Rattle.fat_monitor.specs.declared.actions.Cause.TheVariants as cause
use Rattle.step_core.specs.declared.steps.Atomic.TheVariants.{Label, Acted}
use Rattle.step_core.specs.declared.machine.Move.TheVariants as move
use Rattle.fat_monitor.specs.declared.actions.Action.{Action}
use Rattle.fat_monitor.specs.declared.actions.Done.{Done}
use Rattle.fat_monitor.specs.declared.actions.ActFault.{ActFault}
use Rattle.fat_monitor.specs.declared.actions.Post.{Post}
use Rattle.fat_monitor.specs.declared.actions.Post.TheVariants.{Out}
use Rattle.wait_lines.specs.declared.Role.TheVariants.{Waiting as WaitSet}
use Rattle.fat_monitor.specs.FatState.{FatState, monitor_at, first_of, line_of, post_of, flag_at, flag_of, with_post, with_moment, owns_one, is_owned_by}
use Rattle.fat_monitor.specs.Acting.{Outcome as FatOutcome, outcome_of, by_owner, enter_outcome, exit_outcome, wait_outcome, notify_outcome, replies, after_removals, interrupt_outcome, flag_outcome, are_good}
use Rattle.fast_path.specs.declared.calls.Call.{Call}
use Rattle.fast_path.specs.declared.calls.Call.TheVariants as call
use Rattle.fast_path.specs.declared.Next.{Next}
use Rattle.fast_path.specs.declared.Next.TheVariants as next
use Rattle.fast_path.specs.declared.calls.Operation.{Operation}
use Rattle.fast_path.specs.declared.calls.Operation.TheVariants as op
use Rattle.fast_path.specs.declared.calls.MonitorCall.{MonitorCall}
use Rattle.fast_path.specs.declared.calls.InterruptCall.{InterruptCall}
use Rattle.fast_path.specs.declared.calls.InterruptCall.TheVariants as about
use Rattle.fast_path.specs.Calls.{call_on, call_of, call_about, subject_of}
use Rattle.fast_path.specs.Table.{next_of}
use Rattle.fast_path.proofs.Tables.{spin_fact}
use Rattle.step_core.specs.declared.machine.Doing.TheVariants as doing
use Rattle.step_core.specs.declared.places.Place.TheVariants.{Idle, InCall}
use Rattle.step_core.specs.declared.places.Stage.{Stage}
use Rattle.step_core.specs.declared.places.Stage.TheVariants.{Begun, Taking, Storing, Binding, Acting, Won, Bound, Inflated, Direct}
use Rattle.step_core.specs.declared.steps.Step.{Step}
use Rattle.step_core.specs.declared.steps.Step.TheVariants as step
use Rattle.step_core.specs.declared.steps.Fault.TheVariants as fault
use Rattle.step_core.specs.Machine.{Is}
use Rattle.step_core.specs.World.{WorldState, is_own, place_at, lock_at}
use Rattle.step_core.specs.Shown.{shown}
use Rattle.step_core.specs.Sound.{IsSound}
use Rattle.step_core.specs.Ready.{IsOwnAction}
use Rattle.step_core.specs.Did.{is_wait, one_move, move_and_return}
use Rattle.step_core.specs.Go.{AfterGo, with_go, after_load, after_take, after_bind, after_publish, after_told, after_act, after_look_as, after_stage, action_on, action_about, entering, bind_cause, place_only, fats_changed}
use Rattle.step_core.specs.Step.{AfterStep, accept, refuse, after_attach, after_begin, with_live, after_go, after_look, step_of, first_place, WaitEnd, time_over, wake_up, after_wait_end, after_wait_end_as, after_tick}
use Rattle.step_core.specs.Path.{IsTold}
use Rattle.step_core.specs.Patient.{left_in, left_at, left_of_berth, left_of, HasMet, HasParked, Advances, IsPatient}
use Rattle.step_core.specs.declared.steps.Did.{Did}
use Rattle.step_core.proofs.Facts.Cases.{ended_as, did_return, begin_cases, go_cases}
use Rattle.step_core.proofs.Facts.OneThread.{within, is_at, out_at}

-- an accepted step is patient
abbrev Patient : WorldState → Step → AfterStep → Type 0
Patient w s o = IfOk o.answer (λ d. IsPatient w s d o.after)

-- the action of a call is never refused
abbrev pub IsDone : FatOutcome → Type 0
IsDone o = MatchResult o.answer (λ d. IsTold d.answer) (λ e. ⊥)

owner_done : (f : FatState) (m : ℕ) (t : ThreadId) (o : FatOutcome) → IsDone o → IsDone (by_owner f m t o)
owner_done f m t o h = cond_both (is_owned_by (monitor_at f m).owner t) o (replies f reply.IllegalMonitorState) IsDone (λ _. h) (λ _. tt)

pub done : (f : FatState) (t : ThreadId) (a : Action) → IsOwnAction a → IsDone (outcome_of f t a)
done f t (action.Enter m) own = at (monitor_at f m).owner
  where
    at : (owner : Option ThreadId) → IsDone (enter_outcome f t m owner)
    at None = tt
    at (Some u) = cond_both (u.0 == t.0) _ _ IsDone (λ _. cond_both (nat_lt (monitor_at f m).holds 65535) _ _ IsDone (λ _. tt) (λ _. tt)) (λ _. tt)
done f t (action.Exit m) own = owner_done f m t (exit_outcome f t m) (cond_both (nat_lt 1 (monitor_at f m).holds) _ _ IsDone (λ _. tt) (λ _. tt))
done f t (action.Wait m millis nanos) own = owner_done f m t (wait_outcome f t m millis nanos) (cond_both (are_good millis nanos) _ _ IsDone (λ _. cond_both (flag_at f t) _ _ IsDone (λ _. tt) (λ _. tt)) (λ _. tt))
done f t (action.Notify m) own = owner_done f m t (notify_outcome f (first_of f m WaitSet)) (at (first_of f m WaitSet))
  where
    at : (first : Option ThreadId) → IsDone (notify_outcome f first)
    at None = tt
    at (Some u) = tt
done f t (action.NotifyAll m) own = owner_done f m t (replies (after_removals f (line_of f m WaitSet)) reply.Notified) tt
done f t (action.Holds m) own = tt
done f t (action.Interrupt who) own = at (post_of f who)
  where
    at : (o : Option Post) → IsDone (interrupt_outcome f who o)
    at None = tt
    at (Some p) = tt
done f t action.Interrupted own = tt
done f t (action.IsInterrupted who) own = at (flag_of f who)
  where
    at : (o : Option Bool) → IsDone (flag_outcome f o)
    at None = tt
    at (Some flag) = tt
done f t action.Expire own = absurd own
done f t action.Spurious own = absurd own
done f t action.Collect own = absurd own
done f t action.End own = absurd own

pub own_on : (p : Operation) (m : ℕ) → IsOwnAction (action_on p m)
own_on op.Enter m = tt
own_on op.Exit m = tt
own_on (op.Wait millis nanos) m = tt
own_on op.Notify m = tt
own_on op.NotifyAll m = tt
own_on op.Holds m = tt

pub own_about : (c : InterruptCall) → IsOwnAction (action_about c)
own_about (about.Interrupt u) = tt
own_about about.Interrupted = tt
own_about (about.IsInterrupted u) = tt

module _ (w : WorldState) (sound : IsSound w) (k : ℕ) (t : ThreadId) (berth : berth_of w.berths t ≡ Some k) where
  -- what a Go from a place with n steps left does to them
  abbrev Goes : ℕ → AfterGo → Type 0
  Goes n a = IsSome a.did.reply ⊎ (HasParked a.did.atomic ⊎ (HasMet w t a.did.atomic ⊎ ((left_at (length a.words) a.place < n) × (1 ≤ left_at (length a.words) a.place))))

  loads : (c : MonitorCall) (b : Bool) (n : Next) → place_at w k ≡ InCall (Begun c b) → next_of w.split c.operation (lock_at w c.object.0) (k + 1) ≡ n
      → Goes 4 (after_load w t c b n)
  loads c b (next.Reply r) at e = inl refl
  loads c b (next.Cas l) at e = inr (inr (inr (omega arith, omega arith)))
  loads c b (next.Store l) at e = inr (inr (inr (omega arith, omega arith)))
  loads c b next.Bind at e = inr (inr (inr (omega arith, omega arith)))
  loads c b (next.Fat m) at e = inr (inr (inr (omega arith, omega arith)))
  loads c b next.Spin at e =
      let fact = spin_fact w.split c.operation (lock_at w c.object.0) (k + 1) e in
      let wants : Is (shown w) t (flag_at w.fats t) (doing.Wants (call_of c)) = is_at w sound k t berth (InCall (Begun c b)) at (out_at w sound k t berth (InCall (Begun c b)) at (λ i. cc)) in
      let enters : Is (shown w) t (flag_at w.fats t) (doing.Wants (call.Enter c.object)) = subst (λ (p : Operation). Is (shown w) t (flag_at w.fats t) (doing.Wants (call_on c.object p))) fact.0 wants in
      inr (inr (inl ((c.object, flag_at w.fats t, enters), (fact.1.0, fact.1.1, fact.1.2, λ i. fact.1.3 (same_Some fact.1.0 (k + 1) (sym i ∙ rw berth refl))))))

  takes : (o : ObjectId) (b : Bool) (l : Lock) → Goes 3 (after_take w k t o b l)
  takes o true Free = inr (inr (inr (omega arith, omega arith)))
  takes o false Free = inl refl
  takes o b (Thin i n) = inr (inr (inl tt))
  takes o b (Fat m) = inr (inr (inl tt))

  binds : (c : MonitorCall) (n : ℕ) (refusal : Option Cause) → Goes 3 (after_bind w t c false n refusal)
  binds c n None = inr (inr (inr (omega arith, omega arith)))
  binds c n (Some x) = inl refl

  binds_won : (c : MonitorCall) (n : ℕ) (refusal : Option Cause) → Goes 2 (after_bind w t c true n refusal)
  binds_won c n None = inr (inr (inr (omega arith, omega arith)))
  binds_won c n (Some x) = inl refl

  publishes : (c : MonitorCall) (won : Bool) (m : ℕ) → Goes (left_in (Bound c won m)) (after_publish w t c won m)
  publishes c true m = inl refl
  publishes c false m = inr (inr (inr (omega arith, omega arith)))

  -- an action replies or parks
  acts : (c : Call) (a : Action) (n : ℕ) (f : FatState) (x : Answer) (g chosen : Option ThreadId) → IsTold x → Goes n (after_told w t c a (Ok (record { answer = x; granted = g; chosen = chosen })) f)
  acts c a n f (answer.Reply r) None chosen h = inl refl
  acts c a n f (answer.Reply r) (Some u) chosen h = inl refl
  acts c a n f answer.Quiet g chosen h = absurd h
  acts c a n f answer.Parked g chosen h =
      inr (inl (cond_both (is_wait c) _ _ (λ (d : Did). HasParked d.atomic) (λ _. tt) (λ _. tt)))

  tells : (c : Call) (a : Action) (n : ℕ) (r : Result Done ActFault) (f : FatState) → MatchResult r (λ d. IsTold d.answer) (λ e. ⊥) → Goes n (after_told w t c a r f)
  tells c a n (Ok d) f h = acts c a n f d.answer d.granted d.chosen h
  tells c a n (Err e) f h = absurd h

  acts_at : (c : Call) (a : Action) (n : ℕ) → IsOwnAction a → Goes n (after_act w t c a)
  acts_at c a n own = tells c a n (outcome_of w.fats t a).answer (outcome_of w.fats t a).after (done w.fats t a own)

  looks : (n : ℕ) (own : Bool) → n < length w.words → Goes (length w.words + 1 - n) (after_look_as w t n own)
  looks n true more = inl refl
  looks n false more = inr (inr (inr (omega arith, omega arith)))

  stages : (room : Bool) (s : Stage) → place_at w k ≡ InCall s → Goes (left_in s) (after_stage room w k t s)
  stages room (Begun c b) at = loads c b (next_of w.split c.operation (lock_at w c.object.0) (k + 1)) at refl
  stages room (Taking o b) at = takes o b (lock_at w o.0)
  stages room (Storing c l) at = inl refl
  stages room (Binding c n) at = binds c (n + 1) (bind_cause room w.fats)
  stages room (Acting c m) at = acts_at (call_of c) (action_on c.operation m) 3 (own_on c.operation m)
  stages room (Won o) at = binds_won (entering o) 1 (bind_cause room w.fats)
  stages room (Bound c won m) at = publishes c won m
  stages room (Inflated c m) at = acts_at (call_of c) (action_on c.operation m) 1 (own_on c.operation m)
  stages room (Direct c) at = acts_at (call_about c) (action_about c) 4 (own_about c)

  -- the Go is one of this thread's berth
  left_here : (a : AfterGo) → left_of (with_go w k a) t ≡ left_at (length a.words) a.place
  left_here a = rw (berth, get_or-set_same w.places k a.place Idle (within w sound k t berth)) refl

  advances : (a : AfterGo) → Goes (left_of w t) a → Advances w t a.did (with_go w k a)
  advances a (inl has_reply) = inl has_reply
  advances a (inr (inl parked)) = inr (inl parked)
  advances a (inr (inr (inl met))) = inr (inr (inl met))
  advances a (inr (inr (inr lower))) = inr (inr (inr (rw (left_here a) lower.0, rw (left_here a) lower.1)))

  -- another thread's place stays, and so does the number of objects
  keeps : (a : AfterGo) → length a.words ≡ length w.words → (u : ThreadId) → u.0 ≢ t.0 → left_of (with_go w k a) u ≡ left_of w u
  keeps a size u ne = by_berth (berth_of w.berths u) refl
    where
      by_berth : (o : Option ℕ) → berth_of w.berths u ≡ o → left_of_berth (with_go w k a) o ≡ left_of_berth w o
      by_berth None e = refl
      by_berth (Some j) e =
          let apart : j ≡ k → ⊥ = λ same. ne (berth_thread w.berths t u k berth (rw same at e)) in
          rw (get_or-set_other w.places k j a.place Idle apart, size) refl

  bound : (c : MonitorCall) (won : Bool) (n : ℕ) (refusal : Option Cause) → length (after_bind w t c won n refusal).words ≡ length w.words
  bound c won n None = refl
  bound c true n (Some x) = refl
  bound c false n (Some x) = refl

  by_told : (c : Call) (a : Action) (r : Result Done ActFault) (f : FatState) → length (after_told w t c a r f).words ≡ length w.words
  by_told c a (Ok d) f = refl
  by_told c a (Err e) f = refl

  by_act : (c : Call) (a : Action) → length (after_act w t c a).words ≡ length w.words
  by_act c a = by_told c a (outcome_of w.fats t a).answer (outcome_of w.fats t a).after

  by_look : (n : ℕ) (own : Bool) → length (after_look_as w t n own).words ≡ length w.words
  by_look n true = refl
  by_look n false = refl

  by_load : (c : MonitorCall) (b : Bool) (n : Next) → length (after_load w t c b n).words ≡ length w.words
  by_load c b (next.Reply r) = refl
  by_load c b (next.Cas l) = refl
  by_load c b (next.Store l) = refl
  by_load c b next.Bind = refl
  by_load c b (next.Fat m) = refl
  by_load c b next.Spin = refl

  by_take : (o : ObjectId) (b : Bool) (l : Lock) → length (after_take w k t o b l).words ≡ length w.words
  by_take o true Free = length-set w.words o.0 _
  by_take o false Free = length-set w.words o.0 _
  by_take o b (Thin i n) = refl
  by_take o b (Fat m) = refl

  -- no Go changes how many objects there are
  sizes : (room : Bool) (s : Stage) → length (after_stage room w k t s).words ≡ length w.words
  sizes room (Begun c b) = by_load c b (next_of w.split c.operation (lock_at w c.object.0) (k + 1))
  sizes room (Taking o b) = by_take o b (lock_at w o.0)
  sizes room (Storing c l) = length-set w.words c.object.0 _
  sizes room (Binding c n) = bound c false (n + 1) (bind_cause room w.fats)
  sizes room (Acting c m) = by_act (call_of c) (action_on c.operation m)
  sizes room (Won o) = bound (entering o) true 1 (bind_cause room w.fats)
  sizes room (Bound c true m) = length-set w.words c.object.0 _
  sizes room (Bound c false m) = length-set w.words c.object.0 _
  sizes room (Inflated c m) = by_act (call_of c) (action_on c.operation m)
  sizes room (Direct c) = by_act (call_about c) (action_about c)

module _ (w : WorldState) (sound : IsSound w) (t : ThreadId) where
  -- a new thread takes nobody's berth, and one that ends gives back its own
  attaches : (room : Bool) (o f : Option ℕ) → berth_of w.berths t ≡ o → free_berth w.berths ≡ f → Patient w (step.Attach t) (after_attach room w t o f)
  attaches room (Some k) f e free = tt
  attaches room None None e free = tt
  attaches true None (Some k) e free = λ u ne. by_berth u ne (berth_of w.berths u) refl
    where
      by_berth : (u : ThreadId) → u.0 ≢ t.0 → (o : Option ℕ) → berth_of w.berths u ≡ o → left_of (with_live w k t) u ≡ left_of_berth w o
      by_berth u ne None i = rw (berth_taken_other w.berths t u k free ne, i) refl
      by_berth u ne (Some j) i =
          let apart : j ≡ k → ⊥ = λ same. absurd (let never : ◌≡◌ {A = Option ThreadId} (Some u) None = sym (berth_found w.berths u j i).1 ∙ (rw same (free_found w.berths k free).1) in cc) in
          rw (berth_taken_other w.berths t u k free ne, i, get_or-set_other w.places k j Idle Idle apart) refl
  attaches false None (Some k) e free = tt

  begins : (c : Call) → Patient w (step.Begin t c) (after_begin w t c (berth_of w.berths t))
  begins c = begin_cases w t c (Patient w (step.Begin t c)) (λ none. tt) (λ k o berth names past. tt) (λ k berth there busy. tt)
      (λ k berth there at. keeps w sound k t berth (place_only w (first_place (subject_of c)) (one_move Label (move.Call t c))) refl)

  ends : (k : ℕ) → berth_of w.berths t ≡ Some k → (b : Bool) → Patient w (step.Go t) (ended_as w k t b)
  ends k e true = (inl refl, keeps w sound k t e (place_only w Idle (move_and_return (Acted action.End (answer.Reply (reply.Refused cause.StillOwner))) (move.Refuse t cause.StillOwner) t (reply.Refused cause.StillOwner))) refl)
  ends k e false = (inl refl, λ u ne. by_berth u ne (berth_of w.berths u) refl)
    where
      by_berth : (u : ThreadId) → u.0 ≢ t.0 → (o : Option ℕ) → berth_of w.berths u ≡ o → left_of (ended_as w k t false).after u ≡ left_of_berth w o
      by_berth u ne None i = rw (berth_given_other w.berths t u k e ne, i) refl
      by_berth u ne (Some j) i =
          let apart : j ≡ k → ⊥ = λ same. ne (berth_thread w.berths t u k e (rw same at i)) in
          rw (berth_given_other w.berths t u k e ne, i, get_or-set_other w.places k j Idle Idle apart) refl

  -- each Go
  wents : (room : Bool) → Patient w (step.Go t) (after_go room w t (berth_of w.berths t))
  wents = go_cases w sound t (Patient w (step.Go t))
      (λ none. tt)
      (λ k berth at. tt)
      (λ k berth out room s at fit. let left : left_of w t ≡ left_in s = rw (berth, at) refl in (
        advances w sound k t berth (after_stage room w k t s) (rw left (stages w sound k t berth room s at)),
        keeps w sound k t berth (after_stage room w k t s) (sizes w sound k t berth room s),
      ))
      (λ k berth out n at more. let left : left_of w t ≡ length w.words + 1 - n = rw (berth, at) refl in (
        advances w sound k t berth (after_look w k t n) (rw left (looks w sound k t berth n (is_own (lock_at w n) (k + 1)) more)),
        keeps w sound k t berth (after_look w k t n) (by_look w sound k t berth n (is_own (lock_at w n) (k + 1))),
      ))
      (λ k berth out n at all. ends k berth (owns_one w.fats.monitors t))
      (λ k berth at stands. tt)
      (λ k berth r at granted. (inl refl, keeps w sound k t berth (fats_changed w (with_post w.fats t Out) Idle (did_return t r)) refl))

-- a wait that ends by itself, and a moment that is told, touch no place
abbrev TouchesNone : WorldState → AfterStep → Type 0
TouchesNone w o = IfOk o.answer (λ d. (u : ThreadId) → left_of o.after u ≡ left_of w u)

wait_ends : (x : WaitEnd) (w : WorldState) (t : ThreadId) (o : Option ℕ) → TouchesNone w (after_wait_end x w t o)
wait_ends x w t None = tt
wait_ends x w t (Some k) = by_answer (outcome_of w.fats t x.action).answer
  where
    by_answer : (r : Result Done ActFault) → TouchesNone w (after_wait_end_as x w t r (outcome_of w.fats t x.action).after)
    by_answer (Ok d) = λ u. refl
    by_answer (Err e) = tt

ticks : (w : WorldState) (now : ℕ) → Patient w (step.Tick now) (after_tick w now)
ticks w now =
    cond_both (nat_lt now w.fats.moment) (refuse w fault.Backwards) (accept (record w { fats = with_moment w.fats now }) (one_move Label (move.Time now))) (Patient w (step.Tick now))
    (λ _. tt) (λ _ u. refl)

-- Each accepted step is patient.
pub step_patient : (w : WorldState) → IsSound w → (room : Bool) (s : Step) → IfOk (step_of room w s).answer (λ d. IsPatient w s d (step_of room w s).after)
step_patient w sound room (step.Attach t) = attaches w sound t room (berth_of w.berths t) (free_berth w.berths) refl refl
step_patient w sound room (step.Begin t c) = begins w sound t c
step_patient w sound room (step.Go t) = wents w sound t room
step_patient w sound room (step.Expire t) = wait_ends time_over w t (berth_of w.berths t)
step_patient w sound room (step.Spurious t) = wait_ends wake_up w t (berth_of w.berths t)
step_patient w sound room (step.Tick now) = ticks w now
