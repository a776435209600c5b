-- Steps whose calls name threads by other numbers, where those threads are not there: they do the same.
use Rattle.std.proofs.Common.{◌≡◌, ◌∙◌, ◌⊎◌, inl, inr, sym, ap, refl, subst, ℕ, zero, suc, ◌+◌, ◌<◌, ◌≤◌, Bool, true, false, if◌then◌else◌, nat_lt, List, [], ◌∷◌, length, map, Option, Some, None, Result, Ok, Err}
use Rattle.std.specs.Prelude.{slice_index_or, slice_set}
use Rattle.std.specs.Option.{option_map}
use Rattle.std.proofs.lemmas.Bool.{cases_lt}
use Rattle.std.proofs.lemmas.List.{map-set}
use Rattle.lock_word.specs.declared.ThreadId.{ThreadId}
use Rattle.lock_word.specs.declared.Lock.{Lock}
use Rattle.lock_word.specs.declared.Lock.TheVariants.{Free, Thin, Fat}
use Rattle.lock_word.specs.declared.ObjectId.{ObjectId}
use Rattle.fat_monitor.specs.Acting.{Outcome, flag_outcome, interrupt_outcome, outcome_of, replies}
use Rattle.fat_monitor.specs.FatState.{FatState, flag_at, post_of, with_moment}
use Rattle.fat_monitor.specs.declared.actions.ActFault.{ActFault}
use Rattle.fat_monitor.specs.declared.actions.Action.{Action}
use Rattle.fat_monitor.specs.declared.actions.Action.TheVariants as action
use Rattle.fat_monitor.specs.declared.actions.Answer.{Answer}
use Rattle.fat_monitor.specs.declared.actions.Answer.TheVariants as answer
use Rattle.fat_monitor.specs.declared.actions.Cause.{Cause}
use Rattle.fat_monitor.specs.declared.actions.Cause.TheVariants.{NoThread}
use Rattle.fat_monitor.specs.declared.actions.Done.{Done}
use Rattle.fat_monitor.specs.declared.actions.Post.{Post}
use Rattle.fat_monitor.specs.declared.actions.Reply.{Reply}
use Rattle.fat_monitor.specs.declared.actions.Reply.TheVariants as reply
use Rattle.fast_path.specs.Calls.{call_of, object_of, subject_of}
use Rattle.fast_path.specs.Table.{next_of}
use Rattle.fast_path.specs.declared.Next.{Next}
use Rattle.fast_path.specs.declared.Next.TheVariants as next
use Rattle.fast_path.specs.declared.calls.Call.{Call}
use Rattle.fast_path.specs.declared.calls.Call.TheVariants as call
use Rattle.fast_path.specs.declared.calls.InterruptCall.{InterruptCall}
use Rattle.fast_path.specs.declared.calls.InterruptCall.TheVariants as about
use Rattle.fast_path.specs.declared.calls.MonitorCall.{MonitorCall}
use Rattle.thread_index.specs.Indices.{berth_of}
use Rattle.step_core.specs.Did.{move_and_return, one_move}
use Rattle.step_core.specs.Go.{AfterGo, action_on, after_act, after_bind, after_load, after_look_as, after_publish, after_stage, after_take, after_told, bind_cause, entering, fats_changed, place_after, with_go}
use Rattle.step_core.specs.Step.{AfterStep, WaitEnd, accept, after_begin, after_begin_at, after_begin_on, after_collect, after_end, after_go, after_go_at, after_look, after_tick, after_wait_end, after_wait_end_as, did_collect, first_place, refuse, step_of, time_over, wake_up, world_ended}
use Rattle.step_core.specs.World.{WorldState, is_own, lock_at, place_at}
use Rattle.step_core.specs.declared.machine.Move.TheVariants as move
use Rattle.step_core.specs.declared.places.Place.{Place}
use Rattle.step_core.specs.declared.places.Place.TheVariants.{Idle, InCall, Ending, AtPost}
use Rattle.step_core.specs.declared.places.Stage.{Stage}
use Rattle.step_core.specs.declared.places.Stage.TheVariants.{Begun, Taking, Storing, Binding, Acting, Won, Bound, Inflated, Direct}
use Rattle.step_core.specs.declared.steps.Atomic.TheVariants as atomic
use Rattle.step_core.specs.declared.steps.Did.{Did}
use Rattle.step_core.specs.declared.steps.Fault.{Fault}
use Rattle.step_core.specs.declared.steps.Fault.TheVariants as fault
use Rattle.step_core.specs.declared.steps.Step.{Step}
use Rattle.step_core.specs.declared.steps.Step.TheVariants as step

-- ---- other numbers

-- the number that each thread has instead
abbrev pub Numbers : Type 0
Numbers = ThreadId → ThreadId

abbrev pub renumbered_call : Numbers → Call → Call
renumbered_call r (call.Interrupt u) = call.Interrupt (r u)
renumbered_call r (call.IsInterrupted u) = call.IsInterrupted (r u)
renumbered_call r c = c

abbrev renumbered_about : Numbers → InterruptCall → InterruptCall
renumbered_about r (about.Interrupt u) = about.Interrupt (r u)
renumbered_about r about.Interrupted = about.Interrupted
renumbered_about r (about.IsInterrupted u) = about.IsInterrupted (r u)

abbrev renumbered_stage : Numbers → Stage → Stage
renumbered_stage r (Direct c) = Direct (renumbered_about r c)
renumbered_stage r s = s

abbrev pub renumbered_place : Numbers → Place → Place
renumbered_place r (InCall s) = InCall (renumbered_stage r s)
renumbered_place r p = p

-- the same world, but for the threads that calls name which stand at a place
abbrev pub renumbered : Numbers → WorldState → WorldState
renumbered r w = record w { places = map (renumbered_place r) w.places }

abbrev pub renumbered_step : Numbers → Step → Step
renumbered_step r (step.Begin t c) = step.Begin t (renumbered_call r c)
renumbered_step r x = x

-- The threads below a number keep theirs, and no other has one below it.
pub record AreForOthers (n : ℕ) (r : Numbers) : Type 0 where
  pub same : (u : ThreadId) → u.0 < n → r u ≡ u
  pub others : (u : ThreadId) → n ≤ u.0 → n ≤ (r u).0

-- only threads below a number are there
abbrev pub HasOnly : ℕ → WorldState → Type 0
HasOnly n w = (u : ThreadId) → n ≤ u.0 → post_of w.fats u ≡ None

-- whether a step was accepted, and with which reply
abbrev pub told_of : Result Did Fault → Option (Option Reply)
told_of (Ok d) = Some d.reply
told_of (Err f) = None

-- the one step leaves what the other leaves, with other numbers, and is accepted where it is, with its reply
pub record IsAlike (r : Numbers) (a b : AfterStep) : Type 0 where
  pub world : b.after ≡ renumbered r a.after
  pub told : told_of b.answer ≡ told_of a.answer

place_renumbered : (r : Numbers) (ps : List Place) (k : ℕ) → slice_index_or (map (renumbered_place r) ps) k Idle ≡ renumbered_place r (slice_index_or ps k Idle)
place_renumbered r [] k = refl
place_renumbered r (q ∷ ps) zero = refl
place_renumbered r (q ∷ ps) (suc k) = place_renumbered r ps k

-- a world in which no place has such a call is the same
places_stay : (r : Numbers) (ps : List Place) → ((k : ℕ) → renumbered_place r (slice_index_or ps k Idle) ≡ slice_index_or ps k Idle) → map (renumbered_place r) ps ≡ ps
places_stay r [] h = refl
places_stay r (q ∷ ps) h =
    ap (λ (p : Place). p ∷ map (renumbered_place r) ps) (h 0) ∙ ap (λ (qs : List Place). q ∷ qs) (places_stay r ps (λ k. h (suc k)))

pub world_stays : (r : Numbers) (w : WorldState) → ((k : ℕ) → renumbered_place r (place_at w k) ≡ place_at w k) → renumbered r w ≡ w
world_stays r w h = ap (λ (ps : List Place). record w { places = ps }) (places_stay r w.places h)

object_same : (r : Numbers) (c : Call) → object_of (renumbered_call r c) ≡ object_of c
object_same r (call.Enter o) = refl
object_same r (call.Exit o) = refl
object_same r (call.Wait o a b) = refl
object_same r (call.Notify o) = refl
object_same r (call.NotifyAll o) = refl
object_same r (call.Holds o) = refl
object_same r (call.Interrupt u) = refl
object_same r call.Interrupted = refl
object_same r (call.IsInterrupted u) = refl
object_same r call.End = refl

first_renumbered : (r : Numbers) (c : Call) → first_place (subject_of (renumbered_call r c)) ≡ renumbered_place r (first_place (subject_of c))
first_renumbered r (call.Enter o) = refl
first_renumbered r (call.Exit o) = refl
first_renumbered r (call.Wait o a b) = refl
first_renumbered r (call.Notify o) = refl
first_renumbered r (call.NotifyAll o) = refl
first_renumbered r (call.Holds o) = refl
first_renumbered r (call.Interrupt u) = refl
first_renumbered r call.Interrupted = refl
first_renumbered r (call.IsInterrupted u) = refl
first_renumbered r call.End = refl

-- ---- what a Go leaves has no such call

abbrev Stays : Numbers → AfterGo → Type 0
Stays r a = renumbered_place r a.place ≡ a.place

load_stays : (r : Numbers) (w : WorldState) (t : ThreadId) (c : MonitorCall) (b : Bool) (n : Next) → Stays r (after_load w t c b n)
load_stays r w t c b (next.Reply x) = refl
load_stays r w t c b (next.Cas l) = refl
load_stays r w t c b (next.Store l) = refl
load_stays r w t c b next.Bind = refl
load_stays r w t c b (next.Fat m) = refl
load_stays r w t c b next.Spin = refl

take_stays : (r : Numbers) (w : WorldState) (k : ℕ) (t : ThreadId) (o : ObjectId) (b : Bool) (l : Lock) → Stays r (after_take w k t o b l)
take_stays r w k t o true Free = refl
take_stays r w k t o false Free = refl
take_stays r w k t o b (Thin i c) = refl
take_stays r w k t o b (Fat m) = refl

bind_stays : (r : Numbers) (w : WorldState) (t : ThreadId) (c : MonitorCall) (won : Bool) (n : ℕ) (x : Option Cause) → Stays r (after_bind w t c won n x)
bind_stays r w t c won n None = refl
bind_stays r w t c true n (Some x) = refl
bind_stays r w t c false n (Some x) = refl

publish_stays : (r : Numbers) (w : WorldState) (t : ThreadId) (c : MonitorCall) (won : Bool) (m : ℕ) → Stays r (after_publish w t c won m)
publish_stays r w t c true m = refl
publish_stays r w t c false m = refl

answer_stays : (r : Numbers) (x : Answer) → renumbered_place r (place_after x) ≡ place_after x
answer_stays r (answer.Reply a) = refl
answer_stays r answer.Parked = refl
answer_stays r answer.Quiet = refl

told_stays : (r : Numbers) (w : WorldState) (t : ThreadId) (c : Call) (a : Action) (x : Result Done ActFault) (f : FatState) → Stays r (after_told w t c a x f)
told_stays r w t c a (Ok d) f = answer_stays r d.answer
told_stays r w t c a (Err e) f = refl

pub act_stays : (r : Numbers) (w : WorldState) (t : ThreadId) (c : Call) (a : Action) → Stays r (after_act w t c a)
act_stays r w t c a = told_stays r w t c a (outcome_of w.fats t a).answer (outcome_of w.fats t a).after

look_stays : (r : Numbers) (w : WorldState) (t : ThreadId) (n : ℕ) (b : Bool) → Stays r (after_look_as w t n b)
look_stays r w t n true = refl
look_stays r w t n false = refl

-- ---- and is the same

load_same : (r : Numbers) (w : WorldState) (t : ThreadId) (c : MonitorCall) (b : Bool) (n : Next) → after_load (renumbered r w) t c b n ≡ after_load w t c b n
load_same r w t c b (next.Reply x) = refl
load_same r w t c b (next.Cas l) = refl
load_same r w t c b (next.Store l) = refl
load_same r w t c b next.Bind = refl
load_same r w t c b (next.Fat m) = refl
load_same r w t c b next.Spin = refl

take_same : (r : Numbers) (w : WorldState) (k : ℕ) (t : ThreadId) (o : ObjectId) (b : Bool) (l : Lock) → after_take (renumbered r w) k t o b l ≡ after_take w k t o b l
take_same r w k t o true Free = refl
take_same r w k t o false Free = refl
take_same r w k t o b (Thin i c) = refl
take_same r w k t o b (Fat m) = refl

bind_same : (r : Numbers) (w : WorldState) (t : ThreadId) (c : MonitorCall) (won : Bool) (n : ℕ) (x : Option Cause) → after_bind (renumbered r w) t c won n x ≡ after_bind w t c won n x
bind_same r w t c won n None = refl
bind_same r w t c true n (Some x) = refl
bind_same r w t c false n (Some x) = refl

publish_same : (r : Numbers) (w : WorldState) (t : ThreadId) (c : MonitorCall) (won : Bool) (m : ℕ) → after_publish (renumbered r w) t c won m ≡ after_publish w t c won m
publish_same r w t c true m = refl
publish_same r w t c false m = refl

told_same : (r : Numbers) (w : WorldState) (t : ThreadId) (c : Call) (a : Action) (x : Result Done ActFault) (f : FatState) → after_told (renumbered r w) t c a x f ≡ after_told w t c a x f
told_same r w t c a (Ok d) f = refl
told_same r w t c a (Err e) f = refl

act_same : (r : Numbers) (w : WorldState) (t : ThreadId) (c : Call) (a : Action) → after_act (renumbered r w) t c a ≡ after_act w t c a
act_same r w t c a = told_same r w t c a (outcome_of w.fats t a).answer (outcome_of w.fats t a).after

look_same : (r : Numbers) (w : WorldState) (t : ThreadId) (n : ℕ) (b : Bool) → after_look_as (renumbered r w) t n b ≡ after_look_as w t n b
look_same r w t n true = refl
look_same r w t n false = refl

-- ---- a Go

module _ (n : ℕ) (r : Numbers) (others : AreForOthers n r) (w : WorldState) (only : HasOnly n w) (k : ℕ) (t : ThreadId) where
  went_world : (a : AfterGo) → Stays r a → with_go (renumbered r w) k a ≡ renumbered r (with_go w k a)
  went_world a stays =
      ap (λ (ps : List Place). record w { words = a.words; fats = a.fats; places = ps })
      (ap (λ (q : Place). slice_set (map (renumbered_place r) w.places) k q) (sym stays) ∙ sym (map-set (renumbered_place r) w.places k a.place))

  went : (a : AfterGo) → Stays r a → IsAlike r (accept (with_go w k a) a.did) (accept (with_go (renumbered r w) k a) a.did)
  went a stays = record { world = went_world a stays; told = refl }

  went_as : (a b : AfterGo) → Stays r a → b ≡ a → IsAlike r (accept (with_go w k a) a.did) (accept (with_go (renumbered r w) k b) b.did)
  went_as a b stays same =
      subst (λ (x : AfterGo). IsAlike r (accept (with_go w k a) a.did) (accept (with_go (renumbered r w) k x) x.did)) (sym same) (went a stays)

  -- an action that finds no thread
  refused_act : (c : Call) (x : Action) → outcome_of w.fats t x ≡ replies w.fats (reply.Refused NoThread)
      → after_act w t c x
      ≡ fats_changed w w.fats Idle (move_and_return (atomic.Acted x (answer.Reply (reply.Refused NoThread))) (move.Refuse t NoThread) t (reply.Refused NoThread))
  refused_act c x e = ap (λ (o : Outcome). after_told w t c x o.answer o.after) e

  refused_both : (c d : Call) (x y : Action) → outcome_of w.fats t x ≡ replies w.fats (reply.Refused NoThread) → outcome_of w.fats t y ≡ replies w.fats (reply.Refused NoThread)
      → IsAlike r (accept (with_go w k (after_act w t c x)) (after_act w t c x).did) (accept (with_go (renumbered r w) k (after_act (renumbered r w) t d y)) (after_act (renumbered r w) t d y).did)
  refused_both c d x y ex ey =
      subst (λ (a : AfterGo). IsAlike r (accept (with_go w k a) a.did) (accept (with_go (renumbered r w) k (after_act (renumbered r w) t d y)) (after_act (renumbered r w) t d y).did))
      (sym (refused_act c x ex))
      (subst (λ (b : AfterGo). IsAlike r (accept (with_go w k (gone x)) (gone x).did) (accept (with_go (renumbered r w) k b) b.did))
      (sym (act_same r w t d y ∙ refused_act d y ey))
      (record { world = went_world (gone x) refl; told = refl }))
    where
      gone : Action → AfterGo
      gone z = fats_changed w w.fats Idle (move_and_return (atomic.Acted z (answer.Reply (reply.Refused NoThread))) (move.Refuse t NoThread) t (reply.Refused NoThread))

  act_alike : (c : Call) (x : Action) → IsAlike r (accept (with_go w k (after_act w t c x)) (after_act w t c x).did) (accept (with_go (renumbered r w) k (after_act (renumbered r w) t c x)) (after_act (renumbered r w) t c x).did)
  act_alike c x = went_as (after_act w t c x) (after_act (renumbered r w) t c x) (act_stays r w t c x) (act_same r w t c x)

  interrupt_alike : (u : ThreadId) → (u.0 < n) ⊎ (n ≤ u.0) → IsAlike r (after_go_at true w k t (InCall (Direct (about.Interrupt u)))) (after_go_at true (renumbered r w) k t (InCall (Direct (about.Interrupt (r u)))))
  interrupt_alike u (inl below) =
      subst (λ (v : ThreadId). IsAlike r (after_go_at true w k t (InCall (Direct (about.Interrupt u)))) (after_go_at true (renumbered r w) k t (InCall (Direct (about.Interrupt v)))))
      (sym (others.same u below)) (act_alike (call.Interrupt u) (action.Interrupt u))
  interrupt_alike u (inr above) =
      refused_both (call.Interrupt u) (call.Interrupt (r u)) (action.Interrupt u) (action.Interrupt (r u))
      (ap (interrupt_outcome w.fats u) (only u above)) (ap (interrupt_outcome w.fats (r u)) (only (r u) (others.others u above)))

  asked_alike : (u : ThreadId) → (u.0 < n) ⊎ (n ≤ u.0) → IsAlike r (after_go_at true w k t (InCall (Direct (about.IsInterrupted u)))) (after_go_at true (renumbered r w) k t (InCall (Direct (about.IsInterrupted (r u)))))
  asked_alike u (inl below) =
      subst (λ (v : ThreadId). IsAlike r (after_go_at true w k t (InCall (Direct (about.IsInterrupted u)))) (after_go_at true (renumbered r w) k t (InCall (Direct (about.IsInterrupted v)))))
      (sym (others.same u below)) (act_alike (call.IsInterrupted u) (action.IsInterrupted u))
  asked_alike u (inr above) =
      refused_both (call.IsInterrupted u) (call.IsInterrupted (r u)) (action.IsInterrupted u) (action.IsInterrupted (r u))
      (no_flag u above) (no_flag (r u) (others.others u above))
    where
      no_flag : (v : ThreadId) → n ≤ v.0 → outcome_of w.fats t (action.IsInterrupted v) ≡ replies w.fats (reply.Refused NoThread)
      no_flag v le = ap (λ (p : Option Post). flag_outcome w.fats (option_map (λ (q : Post). flag_at w.fats v) p)) (only v le)

  stage_alike : (s : Stage) → IsAlike r (after_go_at true w k t (InCall s)) (after_go_at true (renumbered r w) k t (InCall (renumbered_stage r s)))
  stage_alike (Begun c b) =
      let x = next_of w.split c.operation (lock_at w c.object.0) (k + 1) in
      went_as (after_load w t c b x) (after_load (renumbered r w) t c b x) (load_stays r w t c b x) (load_same r w t c b x)
  stage_alike (Taking o b) =
      went_as (after_take w k t o b (lock_at w o.0)) (after_take (renumbered r w) k t o b (lock_at w o.0)) (take_stays r w k t o b (lock_at w o.0)) (take_same r w k t o b (lock_at w o.0))
  stage_alike (Storing c l) = went (after_stage true w k t (Storing c l)) refl
  stage_alike (Binding c m) =
      let x = bind_cause true w.fats in
      went_as (after_bind w t c false (m + 1) x) (after_bind (renumbered r w) t c false (m + 1) x) (bind_stays r w t c false (m + 1) x) (bind_same r w t c false (m + 1) x)
  stage_alike (Acting c m) = act_alike (call_of c) (action_on c.operation m)
  stage_alike (Won o) =
      let x = bind_cause true w.fats in
      went_as (after_bind w t (entering o) true 1 x) (after_bind (renumbered r w) t (entering o) true 1 x) (bind_stays r w t (entering o) true 1 x) (bind_same r w t (entering o) true 1 x)
  stage_alike (Bound c won m) =
      went_as (after_publish w t c won m) (after_publish (renumbered r w) t c won m) (publish_stays r w t c won m) (publish_same r w t c won m)
  stage_alike (Inflated c m) = act_alike (call_of c) (action_on c.operation m)
  stage_alike (Direct (about.Interrupt u)) = interrupt_alike u (cases_lt u.0 n)
  stage_alike (Direct about.Interrupted) = act_alike call.Interrupted action.Interrupted
  stage_alike (Direct (about.IsInterrupted u)) = asked_alike u (cases_lt u.0 n)

  -- an end
  ended_world : (bs : List (Option ThreadId)) (f : FatState)
      → ◌≡◌ {A = WorldState} (record (renumbered r w) { berths = bs; places = slice_set (map (renumbered_place r) w.places) k Idle; fats = f })
      (renumbered r (record w { berths = bs; places = slice_set w.places k Idle; fats = f }))
  ended_world bs f = ap (λ (ps : List Place). record w { berths = bs; places = ps; fats = f }) (sym (map-set (renumbered_place r) w.places k Idle))

  end_replies : (f : FatState) (x : Reply) → world_ended (renumbered r w) k f x ≡ renumbered r (world_ended w k f x)
  end_replies f reply.Ended = ended_world (slice_set w.berths k None) f
  end_replies f x = ended_world w.berths f

  end_answers : (f : FatState) (x : Answer) (granted chosen : Option ThreadId)
      → IsAlike r (after_end w k t (Ok (record { answer = x; granted = granted; chosen = chosen })) f) (after_end (renumbered r w) k t (Ok (record { answer = x; granted = granted; chosen = chosen })) f)
  end_answers f (answer.Reply x) granted chosen = record { world = end_replies f x; told = refl }
  end_answers f answer.Parked granted chosen = record { world = refl; told = refl }
  end_answers f answer.Quiet granted chosen = record { world = refl; told = refl }

  end_alike : (x : Result Done ActFault) (f : FatState) → IsAlike r (after_end w k t x f) (after_end (renumbered r w) k t x f)
  end_alike (Ok d) f = end_answers f d.answer d.granted d.chosen
  end_alike (Err e) f = record { world = refl; told = refl }

  collect_alike : (x : Result Done ActFault) (f : FatState) → IsAlike r (after_collect w k t x f) (after_collect (renumbered r w) k t x f)
  collect_alike (Ok d) f = went (fats_changed w f Idle (did_collect t d.answer)) refl
  collect_alike (Err e) f = record { world = refl; told = refl }

  ending_alike : (m : ℕ) → IsAlike r (after_go_at true w k t (Ending m)) (after_go_at true (renumbered r w) k t (Ending m))
  ending_alike m = by (nat_lt m (length w.words))
    where
      by : (b : Bool)
          → IsAlike r
          (if b then accept (with_go w k (after_look w k t m)) (after_look w k t m).did else after_end w k t (outcome_of w.fats t action.End).answer (outcome_of w.fats t action.End).after)
          (if b then accept (with_go (renumbered r w) k (after_look (renumbered r w) k t m)) (after_look (renumbered r w) k t m).did
          else after_end (renumbered r w) k t (outcome_of w.fats t action.End).answer (outcome_of w.fats t action.End).after)
      by true =
          let own = is_own (lock_at w m) (k + 1) in
          went_as (after_look_as w t m own) (after_look_as (renumbered r w) t m own) (look_stays r w t m own) (look_same r w t m own)
      by false = end_alike (outcome_of w.fats t action.End).answer (outcome_of w.fats t action.End).after

  place_alike : (q : Place) → IsAlike r (after_go_at true w k t q) (after_go_at true (renumbered r w) k t (renumbered_place r q))
  place_alike Idle = record { world = refl; told = refl }
  place_alike (InCall s) = stage_alike s
  place_alike (Ending m) = ending_alike m
  place_alike AtPost = collect_alike (outcome_of w.fats t action.Collect).answer (outcome_of w.fats t action.Collect).after

  go_alike : IsAlike r (after_go_at true w k t (place_at w k)) (after_go_at true (renumbered r w) k t (place_at (renumbered r w) k))
  go_alike =
      subst (λ (q : Place). IsAlike r (after_go_at true w k t (place_at w k)) (after_go_at true (renumbered r w) k t q))
      (sym (place_renumbered r w.places k)) (place_alike (place_at w k))

  -- ---- a begin

  begin_at : (c : Call) (q : Place) → IsAlike r (after_begin_at w k t c q) (after_begin_at (renumbered r w) k t (renumbered_call r c) (renumbered_place r q))
  begin_at c Idle = record {
    world = ap (λ (ps : List Place). record w { places = ps })
        (ap (λ (q : Place). slice_set (map (renumbered_place r) w.places) k q) (first_renumbered r c) ∙ sym (map-set (renumbered_place r) w.places k (first_place (subject_of c))));
    told = refl;
  }
  begin_at c (InCall s) = record { world = refl; told = refl }
  begin_at c (Ending m) = record { world = refl; told = refl }
  begin_at c AtPost = record { world = refl; told = refl }

  begin_here : (c : Call) → IsAlike r (after_begin_at w k t c (place_at w k)) (after_begin_at (renumbered r w) k t (renumbered_call r c) (place_at (renumbered r w) k))
  begin_here c =
      subst (λ (q : Place). IsAlike r (after_begin_at w k t c (place_at w k)) (after_begin_at (renumbered r w) k t (renumbered_call r c) q))
      (sym (place_renumbered r w.places k)) (begin_at c (place_at w k))

  begin_on : (c : Call) (o : Option ObjectId) → IsAlike r (after_begin_on w k t c o) (after_begin_on (renumbered r w) k t (renumbered_call r c) o)
  begin_on c None = begin_here c
  begin_on c (Some o) = by (nat_lt o.0 (length w.words))
    where
      by : (b : Bool)
          → IsAlike r (if b then after_begin_at w k t c (place_at w k) else refuse w fault.NoObject)
          (if b then after_begin_at (renumbered r w) k t (renumbered_call r c) (place_at (renumbered r w) k) else refuse (renumbered r w) fault.NoObject)
      by true = begin_here c
      by false = record { world = refl; told = refl }

-- ---- any step but an attach

abbrev pub IsNoAttach : Step → Type 0
IsNoAttach (step.Attach t) = ⊥
IsNoAttach x = Unit {0}

wait_end_alike : (r : Numbers) (x : WaitEnd) (w : WorldState) (t : ThreadId) (b : Option ℕ) → IsAlike r (after_wait_end x w t b) (after_wait_end x (renumbered r w) t b)
wait_end_alike r x w t None = record { world = refl; told = refl }
wait_end_alike r x w t (Some k) = by (outcome_of w.fats t x.action).answer (outcome_of w.fats t x.action).after
  where
    by : (a : Result Done ActFault) (f : FatState) → IsAlike r (after_wait_end_as x w t a f) (after_wait_end_as x (renumbered r w) t a f)
    by (Ok d) f = record { world = refl; told = refl }
    by (Err e) f = record { world = refl; told = refl }

tick_alike : (r : Numbers) (w : WorldState) (now : ℕ) → IsAlike r (after_tick w now) (after_tick (renumbered r w) now)
tick_alike r w now = by (nat_lt now w.fats.moment)
  where
    by : (b : Bool)
        → IsAlike r (if b then refuse w fault.Backwards else accept (record w { fats = with_moment w.fats now }) (one_move atomic.Label (move.Time now)))
        (if b then refuse (renumbered r w) fault.Backwards else accept (record (renumbered r w) { fats = with_moment w.fats now }) (one_move atomic.Label (move.Time now)))
    by true = record { world = refl; told = refl }
    by false = record { world = refl; told = refl }

pub step_alike : (n : ℕ) (r : Numbers) (w : WorldState) (x : Step) → AreForOthers n r → HasOnly n w → IsNoAttach x
    → IsAlike r (step_of true w x) (step_of true (renumbered r w) (renumbered_step r x))
step_alike n r w (step.Attach t) others only attach = absurd attach
step_alike n r w (step.Begin t c) others only attach = by (berth_of w.berths t)
  where
    by : (b : Option ℕ) → IsAlike r (after_begin w t c b) (after_begin (renumbered r w) t (renumbered_call r c) b)
    by None = record { world = refl; told = refl }
    by (Some k) =
        subst (λ (o : Option ObjectId). IsAlike r (after_begin_on w k t c (object_of c)) (after_begin_on (renumbered r w) k t (renumbered_call r c) o))
        (sym (object_same r c)) (begin_on n r others w only k t c (object_of c))
step_alike n r w (step.Go t) others only attach = by (berth_of w.berths t)
  where
    by : (b : Option ℕ) → IsAlike r (after_go true w t b) (after_go true (renumbered r w) t b)
    by None = record { world = refl; told = refl }
    by (Some k) = go_alike n r others w only k t
step_alike n r w (step.Expire t) others only attach = wait_end_alike r time_over w t (berth_of w.berths t)
step_alike n r w (step.Spurious t) others only attach = wait_end_alike r wake_up w t (berth_of w.berths t)
step_alike n r w (step.Tick now) others only attach = tick_alike r w now
