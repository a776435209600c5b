-- Only the step that ends a wait for no reason has that move.
use Rattle.std.proofs.Common.{◌≡◌, ◌∙◌, ap, refl, subst, ℕ, zero, suc, ◌+◌, Bool, true, false, if◌then◌else◌, List, [], ◌∷◌, ◌++◌, length, Option, Some, None, Result, Ok, Err}
use Rattle.std.specs.Prelude.{IfOk, slice_get}
use Rattle.std.specs.List.{filter_map}
use Rattle.std.proofs.lemmas.List.Elements.{filter_map-append}
use Rattle.std.proofs.lemmas.Option.{same_Some}
use Rattle.lock_word.specs.declared.ThreadId.{ThreadId}
use Rattle.lock_word.specs.declared.Lock.{Lock}
use Rattle.lock_word.specs.declared.Lock.TheVariants.{Free, Thin, Fat}
use Rattle.lock_word.specs.declared.ObjectId.{ObjectId}
use Rattle.fat_monitor.specs.Acting.{outcome_of}
use Rattle.fat_monitor.specs.FatState.{FatState, owns_one, post_at}
use Rattle.fat_monitor.specs.declared.actions.ActFault.{ActFault}
use Rattle.fat_monitor.specs.declared.actions.Action.{Action}
use Rattle.fat_monitor.specs.declared.actions.Action.TheVariants as action
use Rattle.fat_monitor.specs.declared.actions.Answer.{Answer}
use Rattle.fat_monitor.specs.declared.actions.Answer.TheVariants as answer
use Rattle.fat_monitor.specs.declared.actions.Cause.{Cause}
use Rattle.fat_monitor.specs.declared.actions.Done.{Done}
use Rattle.fat_monitor.specs.declared.actions.Post.{Post}
use Rattle.fat_monitor.specs.declared.actions.Post.TheVariants.{Out, Entering, Waiting, Back, Granted}
use Rattle.fat_monitor.specs.declared.actions.Reply.{Reply}
use Rattle.fat_monitor.specs.declared.actions.Reply.TheVariants as reply
use Rattle.fast_path.specs.Calls.{call_about, call_of}
use Rattle.fast_path.specs.Table.{next_of}
use Rattle.fast_path.specs.declared.Next.{Next}
use Rattle.fast_path.specs.declared.Next.TheVariants as next
use Rattle.fast_path.specs.declared.calls.Call.{Call}
use Rattle.fast_path.specs.declared.calls.MonitorCall.{MonitorCall}
use Rattle.thread_index.specs.Indices.{berth_of}
use Rattle.step_core.specs.Did.{did_action, grant_of, granting, is_wait, move_for, move_grant_and_return, no_move, parking, tests_own, wakes_all}
use Rattle.step_core.specs.Go.{action_about, action_on, after_act, after_bind, after_load, after_look_as, after_publish, after_stage, after_take, after_told, bind_cause, entering, stored_reply}
use Rattle.step_core.specs.Labels.{HasLabels}
use Rattle.step_core.specs.Requests.{moves_after}
use Rattle.step_core.specs.Sound.{IsSound}
use Rattle.step_core.specs.Step.{after_wait_end, after_wait_end_as, moves_made, moves_of, step_of, time_over}
use Rattle.step_core.specs.World.{WorldState, is_own, lock_at}
use Rattle.step_core.specs.declared.machine.Move.{Move}
use Rattle.step_core.specs.declared.machine.Move.TheVariants as move
use Rattle.step_core.specs.declared.places.Stage.{Stage}
use Rattle.step_core.specs.declared.places.Stage.TheVariants.{Begun, Taking, Storing, Binding, Acting, Won, Bound, Inflated, Direct}
use Rattle.step_core.specs.declared.steps.Atomic.{Atomic}
use Rattle.step_core.specs.declared.steps.Atomic.TheVariants as atomic
use Rattle.step_core.specs.declared.steps.Did.{Did}
use Rattle.step_core.specs.declared.steps.Fault.{Fault}
use Rattle.step_core.specs.declared.steps.Request.TheVariants as request
use Rattle.step_core.specs.declared.steps.Step.{Step}
use Rattle.step_core.specs.declared.steps.Step.TheVariants as step
use Rattle.step_core.proofs.Clauses.Labels.{step_labels}
use Rattle.step_core.proofs.Facts.Cases.{ended_as, go_cases}
use Rattle.step_core.proofs.Relaying.Requests.{then_right}
use Rattle.explore.specs.declared.programs.Program.{Program}
use Rattle.explore.specs.declared.programs.Choice.{Choice}
use Rattle.explore.specs.declared.programs.Choice.TheVariants as choice
use Rattle.explore.specs.States.{ProgramState, after, begin_of, call_below, opening, step_for, thread_of, tick_of}
use Rattle.explore.proofs.Making.{meant}
use Rattle.explore_java.specs.JavaRuns.{woken_by, woken_in}
use Rattle.explore_runs.specs.Steps.{attaches, granted, script_steps, step_in, steps_from}

-- none of these moves ends a wait for no reason
abbrev NoneWakes : List Move → Type 0
NoneWakes [] = Unit {0}
NoneWakes (m ∷ ms) = (woken_by m ≡ None) × NoneWakes ms

none_in : (ms : List Move) → NoneWakes ms → woken_in ms ≡ []
none_in [] h = refl
none_in (m ∷ ms) h =
    filter_map-append woken_by (m ∷ []) ms ∙ ap (λ xs. xs ++ woken_in ms) (ap (λ o. filter_map (λ x. x) (o ∷ [])) h.0) ∙ none_in ms h.1

abbrev Wakeless : Did → Type 0
Wakeless d = NoneWakes (moves_made d.moves)

made_for : (c : Call) (r : Reply) (u : Option ThreadId) (t : ThreadId) → woken_by (move_for c r u t) ≡ None
made_for c reply.Entered u t = refl
made_for c reply.Exited u t = refl
made_for c reply.WaitOver u t = refl
made_for c reply.Interrupted u t = refl
made_for c reply.Done u t = refl
made_for c reply.Notified u t = by (wakes_all c)
  where
    by : (b : Bool) → woken_by (if b then move.NotifyAll t else move.Notify t u) ≡ None
    by true = refl
    by false = refl
made_for c reply.Yes u t = by (tests_own c)
  where
    by : (b : Bool) → woken_by (if b then move.TestClear t else move.Ask t) ≡ None
    by true = refl
    by false = refl
made_for c reply.No u t = by (tests_own c)
  where
    by : (b : Bool) → woken_by (if b then move.TestClear t else move.Ask t) ≡ None
    by true = refl
    by false = refl
made_for c reply.Ended u t = refl
made_for c reply.IllegalMonitorState u t = refl
made_for c reply.IllegalArgument u t = refl
made_for c (reply.Refused x) u t = refl

granting_wakes : (u : ThreadId) (p : Post) → woken_by (granting u p) ≡ None
granting_wakes u Out = refl
granting_wakes u (Entering m) = refl
granting_wakes u (Waiting m n d) = refl
granting_wakes u (Back m n y) = refl
granting_wakes u (Granted reply.Entered) = refl
granting_wakes u (Granted r) = refl

replied_wakes : (a : Atomic) (m : Move) (f : FatState) (g : Option ThreadId) (t : ThreadId) (r : Reply) → woken_by m ≡ None
    → Wakeless (move_grant_and_return a m (grant_of f g) t r)
replied_wakes a m f None t r h = (h, (refl, tt))
replied_wakes a m f (Some u) t r h = (h, (granting_wakes u (post_at f u), (refl, tt)))

parked_wakes : (c : Call) (a : Atomic) (t : ThreadId) (f : FatState) (g : Option ThreadId) → Wakeless (parking c a t (grant_of f g))
parked_wakes c a t f g = by (is_wait c) g
  where
    by : (b : Bool) (o : Option ThreadId)
        → Wakeless (if b then record { atomic = a; moves = Some (move.Wait t) ∷ grant_of f o ∷ None ∷ []; reply = None } else no_move a)
    by true None = (refl, tt)
    by true (Some u) = (refl, (granting_wakes u (post_at f u), tt))
    by false o = tt

-- ---- a Go

load_wakes : (w : WorldState) (t : ThreadId) (c : MonitorCall) (b : Bool) (n : Next) → Wakeless (after_load w t c b n).did
load_wakes w t c b (next.Reply r) = (made_for (call_of c) r None t, (refl, tt))
load_wakes w t c b (next.Cas l) = tt
load_wakes w t c b (next.Store l) = tt
load_wakes w t c b next.Bind = tt
load_wakes w t c b (next.Fat m) = tt
load_wakes w t c b next.Spin = tt

take_wakes : (w : WorldState) (k : ℕ) (t : ThreadId) (o : ObjectId) (b : Bool) (l : Lock) → Wakeless (after_take w k t o b l).did
take_wakes w k t o true Free = (refl, tt)
take_wakes w k t o false Free = (refl, (refl, tt))
take_wakes w k t o b (Thin i c) = tt
take_wakes w k t o b (Fat m) = tt

bind_wakes : (w : WorldState) (t : ThreadId) (c : MonitorCall) (won : Bool) (n : ℕ) (x : Option Cause) → Wakeless (after_bind w t c won n x).did
bind_wakes w t c won n None = tt
bind_wakes w t c true n (Some x) = (refl, tt)
bind_wakes w t c false n (Some x) = (refl, (refl, tt))

publish_wakes : (w : WorldState) (t : ThreadId) (c : MonitorCall) (won : Bool) (m : ℕ) → Wakeless (after_publish w t c won m).did
publish_wakes w t c true m = (refl, tt)
publish_wakes w t c false m = tt

act_wakes : (w : WorldState) (t : ThreadId) (c : Call) (a : Action) → Wakeless (after_act w t c a).did
act_wakes w t c a = by (outcome_of w.fats t a).answer (outcome_of w.fats t a).after
  where
    answered : (f : FatState) (x : Answer) (granted chosen : Option ThreadId) → Wakeless (did_action c a f t (record { answer = x; granted = granted; chosen = chosen }))
    answered f (answer.Reply r) granted chosen = replied_wakes (atomic.Acted a (answer.Reply r)) (move_for c r chosen t) f granted t r (made_for c r chosen t)
    answered f answer.Parked granted chosen = parked_wakes c (atomic.Acted a answer.Parked) t f granted
    answered f answer.Quiet granted chosen = tt

    by : (x : Result Done ActFault) (f : FatState) → Wakeless (after_told w t c a x f).did
    by (Ok d) f = answered f d.answer d.granted d.chosen
    by (Err e) f = tt

stage_wakes : (room : Bool) (w : WorldState) (k : ℕ) (t : ThreadId) (s : Stage) → Wakeless (after_stage room w k t s).did
stage_wakes room w k t (Begun c b) = load_wakes w t c b (next_of w.split c.operation (lock_at w c.object.0) (k + 1))
stage_wakes room w k t (Taking o b) = take_wakes w k t o b (lock_at w o.0)
stage_wakes room w k t (Storing c l) = (made_for (call_of c) (stored_reply c.operation) None t, (refl, tt))
stage_wakes room w k t (Binding c n) = bind_wakes w t c false (n + 1) (bind_cause room w.fats)
stage_wakes room w k t (Acting c m) = act_wakes w t (call_of c) (action_on c.operation m)
stage_wakes room w k t (Won o) = bind_wakes w t (entering o) true 1 (bind_cause room w.fats)
stage_wakes room w k t (Bound c won m) = publish_wakes w t c won m
stage_wakes room w k t (Inflated c m) = act_wakes w t (call_of c) (action_on c.operation m)
stage_wakes room w k t (Direct c) = act_wakes w t (call_about c) (action_about c)

look_wakes : (w : WorldState) (t : ThreadId) (n : ℕ) (b : Bool) → Wakeless (after_look_as w t n b).did
look_wakes w t n true = (refl, (refl, tt))
look_wakes w t n false = tt

go_wakes : (w : WorldState) (sound : IsSound w) (t : ThreadId) → IfOk (step_of true w (step.Go t)).answer Wakeless
go_wakes w sound t =
    go_cases w sound t (λ o. IfOk o.answer Wakeless) (λ e. tt) (λ k at idle. tt) (λ k at out room s here fits. stage_wakes room w k t s)
    (λ k at out m here lt. look_wakes w t m (is_own (lock_at w m) (k + 1))) (λ k at out m here le. over k (owns_one w.fats.monitors t)) (λ k at here stands. tt)
    (λ k at r here granted. (refl, tt)) true
  where
    over : (k : ℕ) (b : Bool) → IfOk (ended_as w k t b).answer Wakeless
    over k true = (refl, (refl, tt))
    over k false = (refl, (refl, tt))

-- ---- any other step but a wake-up for no reason

abbrev IsNoWake : Step → Type 0
IsNoWake (step.Spurious t) = ⊥
IsNoWake x = Unit {0}

expire_wakes : (w : WorldState) (t : ThreadId) (b : Option ℕ) → IfOk (after_wait_end time_over w t b).answer Wakeless
expire_wakes w t None = tt
expire_wakes w t (Some k) = by (outcome_of w.fats t action.Expire).answer (outcome_of w.fats t action.Expire).after
  where
    given : (a : Answer) (f : FatState) (g chosen : Option ThreadId)
        → IfOk (after_wait_end_as time_over w t (Ok (record { answer = a; granted = g; chosen = chosen })) f).answer Wakeless
    given a f None chosen = (refl, tt)
    given a f (Some u) chosen = (refl, (granting_wakes u (post_at f u), tt))

    by : (a : Result Done ActFault) (f : FatState) → IfOk (after_wait_end_as time_over w t a f).answer Wakeless
    by (Ok d) f = given d.answer f d.granted d.chosen
    by (Err e) f = tt

woken_of : (a : Result Did Fault) → IfOk a Wakeless → woken_in (moves_of a) ≡ []
woken_of (Ok d) h = none_in (moves_made d.moves) h
woken_of (Err f) h = refl

step_wakes : (w : WorldState) (x : Step) → IsSound w → IsNoWake x → woken_in (moves_of (step_of true w x).answer) ≡ []
step_wakes w (step.Attach t) sound none = labelled (step_of true w (step.Attach t)).answer (step_labels w sound true (step.Attach t))
  where
    labelled : (a : Result Did Fault) → IfOk a (HasLabels (step.Attach t)) → woken_in (moves_of a) ≡ []
    labelled (Ok d) h = ap woken_in h.0
    labelled (Err f) h = refl
step_wakes w (step.Begin t c) sound none = labelled (step_of true w (step.Begin t c)).answer (step_labels w sound true (step.Begin t c))
  where
    labelled : (a : Result Did Fault) → IfOk a (HasLabels (step.Begin t c)) → woken_in (moves_of a) ≡ []
    labelled (Ok d) h = ap woken_in h.0
    labelled (Err f) h = refl
step_wakes w (step.Go t) sound none = woken_of (step_of true w (step.Go t)).answer (go_wakes w sound t)
step_wakes w (step.Expire t) sound none = woken_of (step_of true w (step.Expire t)).answer (expire_wakes w t (berth_of w.berths t))
step_wakes w (step.Spurious t) sound none = absurd none
step_wakes w (step.Tick now) sound none = labelled (step_of true w (step.Tick now)).answer (step_labels w sound true (step.Tick now))
  where
    labelled : (a : Result Did Fault) → IfOk a (HasLabels (step.Tick now)) → woken_in (moves_of a) ≡ []
    labelled (Ok d) h = ap woken_in h.0
    labelled (Err f) h = refl

-- ---- lists of steps

abbrev AreNoWakes : List Step → Type 0
AreNoWakes [] = Unit {0}
AreNoWakes (x ∷ xs) = IsNoWake x × AreNoWakes xs

wakes_append : (xs ys : List Step) → AreNoWakes xs → AreNoWakes ys → AreNoWakes (xs ++ ys)
wakes_append [] ys h g = g
wakes_append (x ∷ xs) ys h g = (h.0, wakes_append xs ys h.1 g)

pub steps_wake : (w : WorldState) (xs : List Step) → IsSound w → AreNoWakes xs → woken_in (moves_after w (granted xs)) ≡ []
steps_wake w [] sound none = refl
steps_wake w (x ∷ xs) sound none =
    let v : WorldState = (step_of true w x).after in
    let these : List Move = moves_of (step_of true w x).answer in
    filter_map-append woken_by these (moves_after v (granted xs))
    ∙ ap (λ ts. ts ++ woken_in (moves_after v (granted xs))) (step_wakes w x sound none.0)
    ∙ steps_wake v xs (then_right w sound (request.Step x, true)).0 none.1

attaches_wake : (n : ℕ) → AreNoWakes (attaches n)
attaches_wake zero = tt
attaches_wake (suc n) = wakes_append (attaches n) (step.Attach (thread_of n) ∷ []) (attaches_wake n) (tt, tt)

-- a choice means such a step, where the program says that no wait ends for no reason
module _ (p : Program) (never : p.spurious ≡ false) where
  begun : (j : ℕ) (o : Option Call) (x : Step) → begin_of j o ≡ Some x → IsNoWake x
  begun j None x h = absurd (cc)
  begun j (Some c) x h = subst IsNoWake (same_Some (step.Begin (thread_of j) c) x h) tt

  ticked : (o : Option ℕ) (x : Step) → tick_of o ≡ Some x → IsNoWake x
  ticked None x h = absurd (cc)
  ticked (Some now) x h = subst IsNoWake (same_Some (step.Tick now) x h) tt

  woken : (j : ℕ) (b : Bool) (x : Step) → b ≡ false → (if b then Some (step.Spurious (thread_of j)) else None) ≡ Some x → IsNoWake x
  woken j true x e h = absurd (cc)
  woken j false x e h = absurd (cc)

  no_wake : (s : ProgramState) (c : Choice) (x : Step) → step_for p s c ≡ Some x → IsNoWake x
  no_wake s (choice.Begin j) x h = let is = meant p (choice.Begin j) j (slice_get s.nexts j) x h in begun j (call_below p j is.next) x is.is
  no_wake s (choice.Go j) x h =
      let is = meant p (choice.Go j) j (slice_get s.nexts j) x h in subst IsNoWake (same_Some (step.Go (thread_of j)) x is.is) tt
  no_wake s (choice.Expire j) x h =
      let is = meant p (choice.Expire j) j (slice_get s.nexts j) x h in subst IsNoWake (same_Some (step.Expire (thread_of j)) x is.is) tt
  no_wake s (choice.Spurious j) x h = let is = meant p (choice.Spurious j) j (slice_get s.nexts j) x h in woken j p.spurious x never is.is
  no_wake s choice.Tick x h = ticked (slice_get p.moments.items s.told) x h

  choices_wake : (o : Option ProgramState) (cs : List Choice) → AreNoWakes (steps_from p o cs)
  choices_wake None [] = tt
  choices_wake (Some s) [] = tt
  choices_wake None (c ∷ cs) = tt
  choices_wake (Some s) (c ∷ cs) = by (step_for p s c) refl (choices_wake (after p s c) cs)
    where
      by : (o : Option Step) → step_for p s c ≡ o → AreNoWakes (steps_from p (after p s c) cs) → AreNoWakes (step_in o ++ steps_from p (after p s c) cs)
      by None e rest = rest
      by (Some x) e rest = (no_wake s c x e, rest)

  -- so no move of a script does
  pub script_wakes : (cs : List Choice) → AreNoWakes (script_steps p cs)
  script_wakes cs = wakes_append (attaches (length p.starts.items)) (steps_from p (Some (opening p)) cs) (attaches_wake (length p.starts.items)) (choices_wake (Some (opening p)) cs)
