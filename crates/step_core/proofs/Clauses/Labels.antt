-- What a step did has just the labels of the step.
use Rattle.std.specs.Prelude.{◌≡◌, ◌⊎◌, ℕ, ◌+◌, ◌==◌, Bool, true, false, nat_lt, List, [], ◌∷◌, length, Option, Some, None, IfOk, Result, Ok, Err}
use Rattle.std.proofs.Common.{refl, inl, inr, ap, sym, ◌∙◌}
use Rattle.std.proofs.lemmas.Bool.{cond_both}
use Rattle.std.proofs.lemmas.Option.{same_Some}
use Rattle.lock_word.specs.declared.ThreadId.{ThreadId}
use Rattle.lock_word.specs.declared.ObjectId.{ObjectId}
use Rattle.lock_word.specs.declared.Lock.{Lock}
use Rattle.lock_word.specs.declared.Lock.TheVariants.{Free, Thin, Fat}
use Rattle.thread_index.specs.Indices.{berth_of, free_berth}
use Rattle.fat_monitor.specs.declared.actions.Cause.{Cause}
use Rattle.fat_monitor.specs.declared.actions.Cause.TheVariants as cause
use Rattle.fat_monitor.specs.declared.actions.Reply.{Reply}
use Rattle.fat_monitor.specs.declared.actions.Reply.TheVariants as reply
use Rattle.fat_monitor.specs.declared.actions.Answer.{Answer}
use Rattle.fat_monitor.specs.declared.actions.Answer.TheVariants as answer
use Rattle.fat_monitor.specs.declared.actions.Action.{Action}
use Rattle.fat_monitor.specs.declared.actions.Action.TheVariants as action
use Rattle.fat_monitor.specs.declared.actions.Done.{Done}
use Rattle.fat_monitor.specs.declared.actions.ActFault.{ActFault}
use Rattle.fat_monitor.specs.declared.actions.Post.{Post}
use Rattle.fat_monitor.specs.declared.actions.Post.TheVariants.{Out, Entering, Waiting, Back, Granted}
use Rattle.wait_lines.specs.declared.Role.TheVariants.{Waiting as WaitSet}
use Rattle.fat_monitor.specs.FatState.{FatState, monitor_at, first_of, line_of, post_of, post_at, flag_at, flag_of, with_moment, owns_one, is_owned_by}
use Rattle.fat_monitor.specs.Acting.{Outcome as FatOutcome, outcome_of, by_owner, enter_outcome, exit_outcome, wait_outcome, notify_outcome, replies, after_removals, interrupt_outcome, flag_outcome, are_good, expire_outcome, spurious_outcome, collect_outcome}
use Rattle.fast_path.specs.declared.calls.Call.{Call}
use Rattle.fast_path.specs.declared.calls.Call.TheVariants as call
use Rattle.fast_path.specs.declared.Next.{Next}
use Rattle.fast_path.specs.declared.Next.TheVariants as next
use Rattle.fast_path.specs.declared.calls.MonitorCall.{MonitorCall}
use Rattle.fast_path.specs.Calls.{call_of, call_about}
use Rattle.fast_path.specs.Table.{next_of}
use Rattle.step_core.specs.declared.places.Stage.{Stage}
use Rattle.step_core.specs.declared.places.Stage.TheVariants.{Begun, Taking, Storing, Binding, Acting, Won, Bound, Inflated, Direct}
use Rattle.step_core.specs.declared.machine.Move.{Move}
use Rattle.step_core.specs.declared.machine.Move.TheVariants as move
use Rattle.step_core.specs.declared.steps.Atomic.{Atomic}
use Rattle.step_core.specs.declared.steps.Atomic.TheVariants as atomic
use Rattle.step_core.specs.declared.steps.Did.{Did}
use Rattle.step_core.specs.declared.steps.Step.{Step}
use Rattle.step_core.specs.declared.steps.Step.TheVariants as step
use Rattle.step_core.specs.World.{WorldState, lock_at, is_own}
use Rattle.step_core.specs.Sound.{IsSound}
use Rattle.step_core.specs.Did.{wakes_all, tests_own, is_wait, move_for, no_move, one_move, move_and_return, return_alone, granting, did_action, grant_of}
use Rattle.step_core.specs.Go.{load_of, lost_at, won_at, stored_at, stored_reply, after_load, after_take, after_bind, after_publish, after_told, after_act, after_stage, action_on, action_about, entering, bind_cause, after_look_as}
use Rattle.step_core.specs.Step.{AfterStep, after_attach, after_begin, refuse, after_go, step_of, moves_made, accept, WaitEnd, time_over, wake_up, after_wait_end, after_wait_end_as, after_tick}
use Rattle.step_core.specs.Labels.{is_label, labels_of, EndsWith, HasLabels}
use Rattle.step_core.proofs.Facts.Cases.{ended_as, begin_cases, go_cases}
use Rattle.step_core.specs.declared.steps.Fault.{Fault}
use Rattle.step_core.specs.declared.steps.Fault.TheVariants as fault

-- The moves of a Go of t end with the return of its reply, if it has one, and have no other label; and a
-- call that is refused makes no other move than its refusal.
abbrev pub Shape : ThreadId → List Move → Option Reply → Type 0
Shape t ms r = EndsWith t ms r × ((x : Cause) → r ≡ Some (reply.Refused x) → ms ≡ move.Refuse t x ∷ move.Return t (reply.Refused x) ∷ [])

abbrev pub Shapely : ThreadId → Did → Type 0
Shapely t d = Shape t (moves_made d.moves) d.reply

-- the move by which a call gets its reply is no label
no_label : (c : Call) (r : Reply) (u : Option ThreadId) (t : ThreadId) → is_label (move_for c r u t) ≡ false
no_label c reply.Entered u t = refl
no_label c reply.Exited u t = refl
no_label c reply.WaitOver u t = refl
no_label c reply.Interrupted u t = refl
no_label c reply.Done u t = refl
no_label c reply.Notified u t = cond_both (wakes_all c) _ _ (λ m. is_label m ≡ false) (λ _. refl) (λ _. refl)
no_label c reply.Yes u t = cond_both (tests_own c) _ _ (λ m. is_label m ≡ false) (λ _. refl) (λ _. refl)
no_label c reply.No u t = cond_both (tests_own c) _ _ (λ m. is_label m ≡ false) (λ _. refl) (λ _. refl)
no_label c reply.Ended u t = refl
no_label c reply.IllegalMonitorState u t = refl
no_label c reply.IllegalArgument u t = refl
no_label c (reply.Refused x) u t = refl

-- nor is the move by which another thread becomes the owner
no_grant_label : (u : ThreadId) (p : Post) → is_label (granting u p) ≡ false
no_grant_label u Out = refl
no_grant_label u (Entering m) = refl
no_grant_label u (Waiting m n d) = refl
no_grant_label u (Back m n w) = refl
no_grant_label u (Granted reply.Entered) = refl
no_grant_label u (Granted reply.Exited) = refl
no_grant_label u (Granted reply.WaitOver) = refl
no_grant_label u (Granted reply.Interrupted) = refl
no_grant_label u (Granted reply.Done) = refl
no_grant_label u (Granted reply.Notified) = refl
no_grant_label u (Granted reply.Yes) = refl
no_grant_label u (Granted reply.No) = refl
no_grant_label u (Granted reply.Ended) = refl
no_grant_label u (Granted reply.IllegalMonitorState) = refl
no_grant_label u (Granted reply.IllegalArgument) = refl
no_grant_label u (Granted (reply.Refused x)) = refl

one_label : (m : Move) → is_label m ≡ false → labels_of (m ∷ []) ≡ []
one_label m e = rw e refl

two_labels : (m g : Move) → is_label m ≡ false → is_label g ≡ false → labels_of (m ∷ g ∷ []) ≡ []
two_labels m g e h = rw (e, h) refl

-- a refusal is made by its own move
refusal_move : (c : Call) (r : Reply) (u : Option ThreadId) (t : ThreadId) (x : Cause) → r ≡ reply.Refused x → move_for c r u t ≡ move.Refuse t x
refusal_move c r u t x e = rw e refl

-- a call that replies by one move, and one that returns with the reply that it has
answers : (a : Atomic) (c : Call) (r : Reply) (u : Option ThreadId) (t : ThreadId) → Shapely t (move_and_return a (move_for c r u t) t r)
answers a c r u t = (
  (move_for c r u t ∷ [], refl, one_label (move_for c r u t) (no_label c r u t)),
  λ x e. let same : r ≡ reply.Refused x = same_Some r (reply.Refused x) e in rw (refusal_move c r u t x same, same) refl,
)

returns : (a : Atomic) (t : ThreadId) (r : Reply) → ((x : Cause) → r ≡ reply.Refused x → ⊥) → Shapely t (return_alone a t r)
returns a t r other = (([], refl, refl), λ x e. absurd (other x (same_Some r (reply.Refused x) e)))

quiet : (a : Atomic) (t : ThreadId) → Shapely t (no_move a)
quiet a t = (refl, λ x e. absurd (cc))

moves_on : (a : Atomic) (t : ThreadId) (m : Move) → is_label m ≡ false → Shapely t (one_move a m)
moves_on a t m e = (one_label m e, λ x e. absurd (cc))

loads : (w : WorldState) (t : ThreadId) (c : MonitorCall) (b : Bool) (n : Next) → Shapely t (after_load w t c b n).did
loads w t c b (next.Reply r) = answers (load_of w c.object) (call_of c) r None t
loads w t c b (next.Cas l) = quiet (load_of w c.object) t
loads w t c b (next.Store l) = quiet (load_of w c.object) t
loads w t c b next.Bind = quiet (load_of w c.object) t
loads w t c b (next.Fat m) = quiet (load_of w c.object) t
loads w t c b next.Spin = quiet (load_of w c.object) t

takes : (w : WorldState) (k : ℕ) (t : ThreadId) (o : ObjectId) (b : Bool) (l : Lock) → Shapely t (after_take w k t o b l).did
takes w k t o true Free = moves_on (won_at w o (Thin (k + 1) 0)) t (move.Lock t) refl
takes w k t o false Free = answers (won_at w o (Thin (k + 1) 0)) (call.Enter o) reply.Entered None t
takes w k t o b (Thin i c) = quiet (lost_at w o) t
takes w k t o b (Fat m) = quiet (lost_at w o) t

binds : (w : WorldState) (t : ThreadId) (c : MonitorCall) (won : Bool) (n : ℕ) (refusal : Option Cause) → Shapely t (after_bind w t c won n refusal).did
binds w t c won n None = quiet (atomic.Bound c.object (length w.fats.monitors)) t
binds w t c true n (Some x) = returns (atomic.NotBound c.object x) t reply.Entered (λ y e. cc)
binds w t c false n (Some x) = answers (atomic.NotBound c.object x) (call_of c) (reply.Refused x) None t

publishes : (w : WorldState) (t : ThreadId) (c : MonitorCall) (won : Bool) (m : ℕ) → Shapely t (after_publish w t c won m).did
publishes w t c true m = returns (stored_at w c.object (Fat m)) t reply.Entered (λ y e. cc)
publishes w t c false m = quiet (stored_at w c.object (Fat m)) t

-- an action that refuses a call grants nothing
abbrev RefusesAlone : Answer → Option ThreadId → Type 0
RefusesAlone a g = (x : Cause) → a ≡ answer.Reply (reply.Refused x) → g ≡ None

abbrev AreAlone : FatOutcome → Type 0
AreAlone o = IfOk o.answer (λ d. RefusesAlone d.answer d.granted)

owner_alone : (f : FatState) (m : ℕ) (t : ThreadId) (o : FatOutcome) → AreAlone o → AreAlone (by_owner f m t o)
owner_alone f m t o h = cond_both (is_owned_by (monitor_at f m).owner t) o (replies f reply.IllegalMonitorState) AreAlone (λ _. h) (λ _ x e. refl)

alone : (f : FatState) (t : ThreadId) (a : Action) → AreAlone (outcome_of f t a)
alone f t (action.Enter m) = at (monitor_at f m).owner
  where
    at : (owner : Option ThreadId) → AreAlone (enter_outcome f t m owner)
    at None = λ x e. refl
    at (Some u) = cond_both (u.0 == t.0) _ _ AreAlone (λ _. cond_both (nat_lt (monitor_at f m).holds 65535) _ _ AreAlone (λ _ x e. refl) (λ _ x e. refl)) (λ _ x e. refl)
alone f t (action.Exit m) = owner_alone f m t (exit_outcome f t m) (cond_both (nat_lt 1 (monitor_at f m).holds) _ _ AreAlone (λ _ x e. refl) (λ _ x e. absurd (cc)))
alone f t (action.Wait m millis nanos) = owner_alone f m t (wait_outcome f t m millis nanos) (cond_both (are_good millis nanos) _ _ AreAlone (λ _. cond_both (flag_at f t) _ _ AreAlone (λ _ x e. refl) (λ _ x e. absurd (cc))) (λ _ x e. refl))
alone f t (action.Notify m) = owner_alone f m t (notify_outcome f (first_of f m WaitSet)) (at (first_of f m WaitSet))
  where
    at : (first : Option ThreadId) → AreAlone (notify_outcome f first)
    at None = λ x e. refl
    at (Some u) = λ x e. refl
alone f t (action.NotifyAll m) = owner_alone f m t (replies (after_removals f (line_of f m WaitSet)) reply.Notified) (λ x e. refl)
alone f t (action.Holds m) = λ x e. refl
alone f t (action.Interrupt who) = at (post_of f who)
  where
    at : (o : Option Post) → AreAlone (interrupt_outcome f who o)
    at None = λ x e. refl
    at (Some p) = λ x e. absurd (cc)
alone f t action.Interrupted = λ x e. refl
alone f t (action.IsInterrupted who) = at (flag_of f who)
  where
    at : (o : Option Bool) → AreAlone (flag_outcome f o)
    at None = λ x e. refl
    at (Some flag) = λ x e. refl
alone f t action.End = cond_both (owns_one f.monitors t) _ _ AreAlone (λ _ x e. refl) (λ _ x e. refl)
alone f t action.Expire = at (post_at f t)
  where
    at : (p : Post) → AreAlone (expire_outcome f t p)
    at (Waiting m n (Some d)) = cond_both (nat_lt f.moment d) _ _ AreAlone (λ _. tt) (λ _ x e. absurd (cc))
    at (Waiting m n None) = tt
    at Out = tt
    at (Entering m) = tt
    at (Back m n w) = tt
    at (Granted r) = tt
alone f t action.Spurious = at (post_at f t)
  where
    at : (p : Post) → AreAlone (spurious_outcome f t p)
    at (Waiting m n d) = λ x e. absurd (cc)
    at Out = tt
    at (Entering m) = tt
    at (Back m n w) = tt
    at (Granted r) = tt
alone f t action.Collect = at (post_at f t)
  where
    at : (p : Post) → AreAlone (collect_outcome f t p)
    at (Granted r) = λ x e. refl
    at Out = tt
    at (Entering m) = tt
    at (Waiting m n d) = tt
    at (Back m n w) = tt

acts : (f : FatState) (t : ThreadId) (c : Call) (a : Action) (x : Answer) (g chosen : Option ThreadId) → RefusesAlone x g
    → Shapely t (did_action c a f t (record { answer = x; granted = g; chosen = chosen }))
acts f t c a (answer.Reply r) None chosen h = answers (atomic.Acted a (answer.Reply r)) c r chosen t
acts f t c a (answer.Reply r) (Some u) chosen h = (
  (move_for c r chosen t ∷ granting u (post_at f u) ∷ [], refl, two_labels (move_for c r chosen t) (granting u (post_at f u)) (no_label c r chosen t) (no_grant_label u (post_at f u))),
  λ x e. let never : Some u ≡ None = h x (ap (λ (y : Reply). answer.Reply y) (same_Some r (reply.Refused x) e)) in absurd (cc),
)
acts f t c a answer.Quiet g chosen h = quiet (atomic.Acted a answer.Quiet) t
acts f t c a answer.Parked g chosen h = cond_both (is_wait c) _ _ (Shapely t) (λ _. waits g) (λ _. quiet (atomic.Acted a answer.Parked) t)
  where
    waits : (g : Option ThreadId)
        → Shapely t (record { atomic = atomic.Acted a answer.Parked; moves = Some (move.Wait t) ∷ grant_of f g ∷ None ∷ []; reply = None })
    waits None = (refl, λ x e. absurd (cc))
    waits (Some u) = (two_labels (move.Wait t) (granting u (post_at f u)) refl (no_grant_label u (post_at f u)), λ x e. absurd (cc))

tells : (w : WorldState) (t : ThreadId) (c : Call) (a : Action) (r : Result Done ActFault) (f : FatState) → IfOk r (λ d. RefusesAlone d.answer d.granted)
    → Shapely t (after_told w t c a r f).did
tells w t c a (Ok d) f h = acts f t c a d.answer d.granted d.chosen h
tells w t c a (Err e) f h = quiet atomic.Label t

acts_at : (w : WorldState) (t : ThreadId) (c : Call) (a : Action) → Shapely t (after_act w t c a).did
acts_at w t c a = tells w t c a (outcome_of w.fats t a).answer (outcome_of w.fats t a).after (alone w.fats t a)

looks : (w : WorldState) (t : ThreadId) (n : ℕ) (own : Bool) → Shapely t (after_look_as w t n own).did
looks w t n true = answers (load_of w (record { 0 = n })) call.End (reply.Refused cause.StillOwner) None t
looks w t n false = quiet (load_of w (record { 0 = n })) t

stages : (room : Bool) (w : WorldState) (k : ℕ) (t : ThreadId) (s : Stage) → Shapely t (after_stage room w k t s).did
stages room w k t (Begun c b) = loads w t c b (next_of w.split c.operation (lock_at w c.object.0) (k + 1))
stages room w k t (Taking o b) = takes w k t o b (lock_at w o.0)
stages room w k t (Storing c l) = answers (stored_at w c.object l) (call_of c) (stored_reply c.operation) None t
stages room w k t (Binding c n) = binds w t c false (n + 1) (bind_cause room w.fats)
stages room w k t (Acting c m) = acts_at w t (call_of c) (action_on c.operation m)
stages room w k t (Won o) = binds w t (entering o) true 1 (bind_cause room w.fats)
stages room w k t (Bound c won m) = publishes w t c won m
stages room w k t (Inflated c m) = acts_at w t (call_of c) (action_on c.operation m)
stages room w k t (Direct c) = acts_at w t (call_about c) (action_about c)

ends : (w : WorldState) (k : ℕ) (t : ThreadId) (b : Bool) → IfOk (ended_as w k t b).answer (Shapely t)
ends w k t true = answers (atomic.Acted action.End (answer.Reply (reply.Refused cause.StillOwner))) call.End (reply.Refused cause.StillOwner) None t
ends w k t false = answers (atomic.Acted action.End (answer.Reply reply.Ended)) call.End reply.Ended None t

-- what is granted is no refusal
no_refusal : (r : Reply) → (r ≡ reply.Entered) ⊎ ((r ≡ reply.WaitOver) ⊎ (r ≡ reply.Interrupted)) → (x : Cause) → r ≡ reply.Refused x → ⊥
no_refusal r (inl e) x h = let never : reply.Entered ≡ reply.Refused x = sym e ∙ h in cc
no_refusal r (inr (inl e)) x h = let never : reply.WaitOver ≡ reply.Refused x = sym e ∙ h in cc
no_refusal r (inr (inr e)) x h = let never : reply.Interrupted ≡ reply.Refused x = sym e ∙ h in cc

-- the moves of an accepted Go
pub go_shape : (room : Bool) (w : WorldState) → IsSound w → (t : ThreadId) → IfOk (after_go room w t (berth_of w.berths t)).answer (Shapely t)
go_shape room w sound t = go_cases w sound t (λ o. IfOk o.answer (Shapely t))
    (λ none. tt)
    (λ k berth at. tt)
    (λ k berth out room s at fit. stages room w k t s)
    (λ k berth out n at more. looks w t n (is_own (lock_at w n) (k + 1)))
    (λ k berth out n at all. ends w k t (owns_one w.fats.monitors t))
    (λ k berth at stands. tt)
    (λ k berth r at granted. returns (atomic.Acted action.Collect (answer.Reply r)) t r (no_refusal r (sound.fats.proper t (Granted r) granted)))
    room

go_labels : (t : ThreadId) (r : Result Did Fault) → IfOk r (Shapely t) → IfOk r (HasLabels (step.Go t))
go_labels t (Ok d) h = h.0
go_labels t (Err f) h = tt

-- an accepted step has its labels
abbrev Labeled : Step → AfterStep → Type 0
Labeled s o = IfOk o.answer (HasLabels s)

attaches : (room : Bool) (w : WorldState) (t : ThreadId) (o f : Option ℕ) → Labeled (step.Attach t) (after_attach room w t o f)
attaches room w t (Some k) f = tt
attaches room w t None None = tt
attaches true w t None (Some k) = (refl, refl)
attaches false w t None (Some k) = tt

begins : (w : WorldState) (t : ThreadId) (c : Call) → Labeled (step.Begin t c) (after_begin w t c (berth_of w.berths t))
begins w t c = begin_cases w t c (Labeled (step.Begin t c)) (λ none. tt) (λ k o berth names past. tt) (λ k berth there busy. tt) (λ k berth there at. (refl, refl))

-- a wait that ends by itself has none
abbrev Unlabeled : ThreadId → AfterStep → Type 0
Unlabeled t o = IfOk o.answer (λ d. EndsWith t (moves_made d.moves) None × (d.reply ≡ None))

wait_ends_as : (x : WaitEnd) (w : WorldState) (t : ThreadId) (r : Result Done ActFault) (f : FatState) → is_label (x.made t) ≡ false → Unlabeled t (after_wait_end_as x w t r f)
wait_ends_as x w t (Err e) f plain = tt
wait_ends_as x w t (Ok d) f plain = (by_grant d.granted, refl)
  where
    by_grant : (g : Option ThreadId) → labels_of (moves_made (Some (x.made t) ∷ grant_of f g ∷ None ∷ [])) ≡ []
    by_grant None = rw plain refl
    by_grant (Some u) = two_labels (x.made t) (granting u (post_at f u)) plain (no_grant_label u (post_at f u))

wait_ends : (x : WaitEnd) (w : WorldState) (t : ThreadId) (o : Option ℕ) → is_label (x.made t) ≡ false → Unlabeled t (after_wait_end x w t o)
wait_ends x w t None plain = tt
wait_ends x w t (Some k) plain = wait_ends_as x w t (outcome_of w.fats t x.action).answer (outcome_of w.fats t x.action).after plain

ticks : (w : WorldState) (now : ℕ) → Labeled (step.Tick now) (after_tick w now)
ticks w now =
    cond_both (nat_lt now w.fats.moment) (refuse w fault.Backwards) (accept (record w { fats = with_moment w.fats now }) (one_move atomic.Label (move.Time now)))
    (Labeled (step.Tick now)) (λ _. tt) (λ _. (refl, refl))

-- An accepted step has just its labels.
pub step_labels : (w : WorldState) → IsSound w → (room : Bool) (s : Step) → IfOk (step_of room w s).answer (HasLabels s)
step_labels w sound room (step.Attach t) = attaches room w t (berth_of w.berths t) (free_berth w.berths)
step_labels w sound room (step.Begin t c) = begins w t c
step_labels w sound room (step.Go t) = go_labels t (after_go room w t (berth_of w.berths t)).answer (go_shape room w sound t)
step_labels w sound room (step.Expire t) = wait_ends time_over w t (berth_of w.berths t) refl
step_labels w sound room (step.Spurious t) = wait_ends wake_up w t (berth_of w.berths t) refl
step_labels w sound room (step.Tick now) = ticks w now
