-- Which threads are busy, from one world to the next.
use Rattle.std.proofs.Common.{◌≡◌, ◌∙◌, ◌⊎◌, inl, inr, sym, ap, refl, ℕ, zero, suc, ◌+◌, Bool, true, false, if◌then◌else◌, nat_lt, List, [], ◌∷◌, length, Option, Some, None, Result, Ok, Err}
use Rattle.std.specs.Prelude.{slice_index_or, slice_set}
use Rattle.std.proofs.lemmas.Bool.{cases_eq}
use Rattle.std.proofs.lemmas.List.{get_or-set_other}
use Rattle.lock_word.specs.declared.ThreadId.{ThreadId}
use Rattle.lock_word.specs.declared.Lock.{Lock}
use Rattle.lock_word.specs.declared.Lock.TheVariants.{Free, Thin, Fat}
use Rattle.lock_word.specs.declared.ObjectId.{ObjectId}
use Rattle.fat_monitor.specs.Acting.{outcome_of}
use Rattle.fat_monitor.specs.FatState.{FatState, with_moment}
use Rattle.fat_monitor.specs.declared.actions.ActFault.{ActFault}
use Rattle.fat_monitor.specs.declared.actions.Action.{Action}
use Rattle.fat_monitor.specs.declared.actions.Action.TheVariants as action
use Rattle.fat_monitor.specs.declared.actions.Answer.{Answer}
use Rattle.fat_monitor.specs.declared.actions.Answer.TheVariants as answer
use Rattle.fat_monitor.specs.declared.actions.Cause.{Cause}
use Rattle.fat_monitor.specs.declared.actions.Done.{Done}
use Rattle.fat_monitor.specs.declared.actions.Reply.{Reply}
use Rattle.fat_monitor.specs.declared.actions.Reply.TheVariants as reply
use Rattle.fast_path.specs.Calls.{call_about, call_of, object_of, subject_of}
use Rattle.fast_path.specs.Table.{next_of}
use Rattle.fast_path.specs.declared.Next.{Next}
use Rattle.fast_path.specs.declared.Next.TheVariants as next
use Rattle.fast_path.specs.declared.calls.Call.{Call}
use Rattle.fast_path.specs.declared.calls.MonitorCall.{MonitorCall}
use Rattle.thread_index.specs.Indices.{IsOneToOne, berth_of}
use Rattle.thread_index.proofs.Berths.{IsOneToOne-given, berth_given_other, berth_given_same, berth_same, berth_thread}
use Rattle.step_core.specs.Did.{grant_of, is_wait, no_move, one_move, parking, return_alone}
use Rattle.step_core.specs.Go.{AfterGo, action_about, action_on, after_act, after_bind, after_load, after_look_as, after_publish, after_stage, after_take, after_told, bind_cause, entering, fats_changed, with_go}
use Rattle.step_core.specs.Step.{AfterStep, WaitEnd, accept, after_begin, after_begin_at, after_begin_on, after_collect, after_end, after_go, after_go_at, after_look, after_tick, after_wait_end, after_wait_end_as, did_collect, first_place, refuse, world_ended}
use Rattle.step_core.specs.World.{WorldState, is_own, lock_at, place_at}
use Rattle.step_core.specs.declared.machine.Move.{Move}
use Rattle.step_core.specs.declared.machine.Move.TheVariants as move
use Rattle.step_core.specs.declared.places.Place.{Place}
use Rattle.step_core.specs.declared.places.Place.TheVariants.{Idle, InCall, Ending, AtPost}
use Rattle.step_core.specs.declared.places.Stage.{Stage}
use Rattle.step_core.specs.declared.places.Stage.TheVariants.{Begun, Taking, Storing, Binding, Acting, Won, Bound, Inflated, Direct}
use Rattle.step_core.specs.declared.steps.Atomic.{Atomic}
use Rattle.step_core.specs.declared.steps.Atomic.TheVariants as atomic
use Rattle.step_core.specs.declared.steps.Did.{Did}
use Rattle.step_core.specs.declared.steps.Fault.{Fault}
use Rattle.step_core.specs.declared.steps.Fault.TheVariants as fault

abbrev Berths : Type 0
Berths = List (Option ThreadId)

-- who stands at this place is busy: in a call
abbrev pub is_busy_place : Place → Bool
is_busy_place Idle = false
is_busy_place (InCall s) = true
is_busy_place (Ending n) = true
is_busy_place AtPost = true

-- who has this berth, if it is one, is busy
abbrev pub is_busy_berth : List Place → Option ℕ → Bool
is_busy_berth ps None = false
is_busy_berth ps (Some k) = is_busy_place (slice_index_or ps k Idle)

-- a thread is busy
abbrev pub is_busy : WorldState → ThreadId → Bool
is_busy w t = is_busy_berth w.places (berth_of w.berths t)

-- A step of thread t left this world, with this reply, if any. Who is in a call then was in one before, but for t where
-- it begins one. Where there is a reply, t was in a call, and is in none any more.
pub record Leaves (w : WorldState) (t : ThreadId) (begins : Bool) (v : WorldState) (r : Option Reply) : Type 0 where
  pub one : IsOneToOne v.berths
  pub began : (u : ThreadId) → is_busy v u ≡ true → (is_busy w u ≡ true) ⊎ ((begins ≡ true) × (u.0 ≡ t.0))
  pub over : (a : Reply) → r ≡ Some a → (is_busy w t ≡ true) × (is_busy v t ≡ false)

-- the same of an answer; of a refused step nothing is said
abbrev pub LeavesAs : WorldState → ThreadId → Bool → Result Did Fault → WorldState → Type 0
LeavesAs w t begins (Ok d) v = Leaves w t begins v d.reply
LeavesAs w t begins (Err f) v = Unit {0}

abbrev pub LeavesBy : WorldState → ThreadId → Bool → AfterStep → Type 0
LeavesBy w t begins a = LeavesAs w t begins a.answer a.after

-- ---- places and berths

pub idle_set : (ps : List Place) (k : ℕ) → slice_index_or (slice_set ps k Idle) k Idle ≡ Idle
idle_set [] k = refl
idle_set (q ∷ ps) zero = refl
idle_set (q ∷ ps) (suc k) = idle_set ps k

-- another thread stands where it stood
pub other_stays : (bs : Berths) (ps : List Place) (t u : ThreadId) (k : ℕ) (q : Place) → berth_of bs t ≡ Some k → (u.0 ≡ t.0 → ⊥)
    → is_busy_berth (slice_set ps k q) (berth_of bs u) ≡ is_busy_berth ps (berth_of bs u)
other_stays bs ps t u k q at ne = by (berth_of bs u) refl
  where
    by : (o : Option ℕ) → berth_of bs u ≡ o → is_busy_berth (slice_set ps k q) o ≡ is_busy_berth ps o
    by None e = refl
    by (Some j) e = ap is_busy_place (get_or-set_other ps k j q Idle (λ (same : j ≡ k). ne (berth_thread bs t u k at (e ∙ ap Some same))))

pub own_busy : (bs : Berths) (ps : List Place) (t u : ThreadId) (k : ℕ) → berth_of bs t ≡ Some k → is_busy_place (slice_index_or ps k Idle) ≡ true
    → u.0 ≡ t.0 → is_busy_berth ps (berth_of bs u) ≡ true
own_busy bs ps t u k at busy same = ap (is_busy_berth ps) (berth_same bs t u same ∙ at) ∙ busy

pub own_idle : (bs : Berths) (ps : List Place) (t : ThreadId) (k : ℕ) (q : Place) → berth_of bs t ≡ Some k → q ≡ Idle
    → is_busy_berth (slice_set ps k q) (berth_of bs t) ≡ false
own_idle bs ps t k q at idle =
    ap (is_busy_berth (slice_set ps k q)) at
    ∙ ap (λ (x : Place). is_busy_place (slice_index_or (slice_set ps k x) k Idle)) idle ∙ ap is_busy_place (idle_set ps k)

-- ---- steps that move nobody

quiet : (w : WorldState) (t : ThreadId) (begins : Bool) (f : FatState) → IsOneToOne w.berths → Leaves w t begins (record w { fats = f }) None
quiet w t begins f one = record {
  one = one;
  began = λ u h. inl h;
  over = λ a e. absurd (cc);
}

ended_as : (x : WaitEnd) (w : WorldState) (t : ThreadId) (r : Result Done ActFault) (f : FatState) → IsOneToOne w.berths
    → LeavesBy w t false (after_wait_end_as x w t r f)
ended_as x w t (Ok d) f one = quiet w t false f one
ended_as x w t (Err e) f one = tt

-- a wait that ends by itself
pub wait_end_leaves : (x : WaitEnd) (w : WorldState) (t : ThreadId) (b : Option ℕ) → IsOneToOne w.berths → LeavesBy w t false (after_wait_end x w t b)
wait_end_leaves x w t None one = tt
wait_end_leaves x w t (Some k) one = ended_as x w t (outcome_of w.fats t x.action).answer (outcome_of w.fats t x.action).after one

-- the clock tells a moment, unless that is before the last one
abbrev ticked : WorldState → ℕ → Bool → AfterStep
ticked w now b = if b then refuse w fault.Backwards else accept (record w { fats = with_moment w.fats now }) (one_move atomic.Label (move.Time now))

pub tick_leaves : (w : WorldState) (t : ThreadId) (now : ℕ) → IsOneToOne w.berths → LeavesBy w t false (after_tick w now)
tick_leaves w t now one = by (nat_lt now w.fats.moment)
  where
    by : (b : Bool) → LeavesBy w t false (ticked w now b)
    by true = tt
    by false = quiet w t false (with_moment w.fats now) one

-- and hands out no reply
pub tick_told : (w : WorldState) (now : ℕ) (d : Did) → (after_tick w now).answer ≡ Ok d → d.reply ≡ None
tick_told w now d h = by (nat_lt now w.fats.moment) h
  where
    by : (b : Bool) → (ticked w now b).answer ≡ Ok d → d.reply ≡ None
    by true e = absurd (cc)
    by false e = sym (ap told e)
      where
        told : Result Did Fault → Option Reply
        told (Ok x) = x.reply
        told (Err f) = None

-- ---- a Go

-- a Go moves its thread alone, which was in a call; where there is a reply it is in none any more
abbrev pub Idles : AfterGo → Type 0
Idles a = (r : Reply) → a.did.reply ≡ Some r → a.place ≡ Idle

went : (w : WorldState) (t : ThreadId) (k : ℕ) (a : AfterGo) → IsOneToOne w.berths → berth_of w.berths t ≡ Some k
    → is_busy_place (place_at w k) ≡ true → Idles a → Leaves w t false (with_go w k a) a.did.reply
went w t k a one at busy idles = record {
  one = one;
  began = λ u h. inl (by u h (cases_eq u.0 t.0));
  over = λ r e. (own_busy w.berths w.places t t k at busy refl, own_idle w.berths w.places t k a.place at (idles r e));
}
  where
    by : (u : ThreadId) → is_busy (with_go w k a) u ≡ true → (u.0 ≡ t.0) ⊎ (u.0 ≡ t.0 → ⊥) → is_busy w u ≡ true
    by u h (inl same) = own_busy w.berths w.places t u k at busy same
    by u h (inr ne) = sym (other_stays w.berths w.places t u k a.place at ne) ∙ h

-- a thread that has ended has no berth any more
gone : (w : WorldState) (t : ThreadId) (k : ℕ) (f : FatState) → IsOneToOne w.berths → berth_of w.berths t ≡ Some k
    → is_busy_place (place_at w k) ≡ true → Leaves w t false (world_ended w k f reply.Ended) (Some reply.Ended)
gone w t k f one at busy = record {
  one = IsOneToOne-given w.berths t k one at;
  began = λ u h. inl (by u h (cases_eq u.0 t.0));
  over = λ r e. (own_busy w.berths w.places t t k at busy refl, ap (is_busy_berth (slice_set w.places k Idle)) (berth_given_same w.berths t k one at));
}
  where
    by : (u : ThreadId) → is_busy (world_ended w k f reply.Ended) u ≡ true → (u.0 ≡ t.0) ⊎ (u.0 ≡ t.0 → ⊥) → is_busy w u ≡ true
    by u h (inl same) = own_busy w.berths w.places t u k at busy same
    by u h (inr ne) =
        sym (ap (is_busy_berth (slice_set w.places k Idle)) (berth_given_other w.berths t u k at ne) ∙ other_stays w.berths w.places t u k Idle at ne) ∙ h

-- ---- where a Go with a reply leaves its thread

load_idles : (w : WorldState) (t : ThreadId) (c : MonitorCall) (b : Bool) (n : Next) → Idles (after_load w t c b n)
load_idles w t c b (next.Reply r) = λ a e. refl
load_idles w t c b (next.Cas l) = λ a e. absurd (cc)
load_idles w t c b (next.Store l) = λ a e. absurd (cc)
load_idles w t c b next.Bind = λ a e. absurd (cc)
load_idles w t c b (next.Fat m) = λ a e. absurd (cc)
load_idles w t c b next.Spin = λ a e. absurd (cc)

take_idles : (w : WorldState) (k : ℕ) (t : ThreadId) (o : ObjectId) (b : Bool) (l : Lock) → Idles (after_take w k t o b l)
take_idles w k t o true Free = λ a e. absurd (cc)
take_idles w k t o false Free = λ a e. refl
take_idles w k t o b (Thin i c) = λ a e. absurd (cc)
take_idles w k t o b (Fat m) = λ a e. absurd (cc)

bind_idles : (w : WorldState) (t : ThreadId) (c : MonitorCall) (won : Bool) (n : ℕ) (x : Option Cause) → Idles (after_bind w t c won n x)
bind_idles w t c won n None = λ a e. absurd (cc)
bind_idles w t c true n (Some x) = λ a e. refl
bind_idles w t c false n (Some x) = λ a e. refl

publish_idles : (w : WorldState) (t : ThreadId) (c : MonitorCall) (won : Bool) (m : ℕ) → Idles (after_publish w t c won m)
publish_idles w t c true m = λ a e. refl
publish_idles w t c false m = λ a e. absurd (cc)

parks : (c : Call) (a : Atomic) (t : ThreadId) (g : Option Move) → (parking c a t g).reply ≡ None
parks c a t g = by (is_wait c)
  where
    by : (b : Bool) → (if b then record { atomic = a; moves = Some (move.Wait t) ∷ g ∷ None ∷ []; reply = None } else no_move a).reply ≡ None
    by true = refl
    by false = refl

answer_idles : (w : WorldState) (t : ThreadId) (c : Call) (a : Action) (f : FatState) (x : Answer) (granted chosen : Option ThreadId)
    → Idles (after_told w t c a (Ok (record { answer = x; granted = granted; chosen = chosen })) f)
answer_idles w t c a f (answer.Reply r) granted chosen = λ r e. refl
answer_idles w t c a f answer.Parked granted chosen = λ r e. absurd (let h = parks c (atomic.Acted a answer.Parked) t (grant_of f granted) in cc)
answer_idles w t c a f answer.Quiet granted chosen = λ r e. absurd (cc)

told_idles : (w : WorldState) (t : ThreadId) (c : Call) (a : Action) (r : Result Done ActFault) (f : FatState) → Idles (after_told w t c a r f)
told_idles w t c a (Ok d) f = answer_idles w t c a f d.answer d.granted d.chosen
told_idles w t c a (Err x) f = λ r e. refl

act_idles : (w : WorldState) (t : ThreadId) (c : Call) (a : Action) → Idles (after_act w t c a)
act_idles w t c a = told_idles w t c a (outcome_of w.fats t a).answer (outcome_of w.fats t a).after

pub stage_idles : (room : Bool) (w : WorldState) (k : ℕ) (t : ThreadId) (s : Stage) → Idles (after_stage room w k t s)
stage_idles room w k t (Begun c b) = load_idles w t c b (next_of w.split c.operation (lock_at w c.object.0) (k + 1))
stage_idles room w k t (Taking o b) = take_idles w k t o b (lock_at w o.0)
stage_idles room w k t (Storing c l) = λ a e. refl
stage_idles room w k t (Binding c n) = bind_idles w t c false (n + 1) (bind_cause room w.fats)
stage_idles room w k t (Acting c m) = act_idles w t (call_of c) (action_on c.operation m)
stage_idles room w k t (Won o) = bind_idles w t (entering o) true 1 (bind_cause room w.fats)
stage_idles room w k t (Bound c won m) = publish_idles w t c won m
stage_idles room w k t (Inflated c m) = act_idles w t (call_of c) (action_on c.operation m)
stage_idles room w k t (Direct c) = act_idles w t (call_about c) (action_about c)

pub look_idles : (w : WorldState) (t : ThreadId) (n : ℕ) (b : Bool) → Idles (after_look_as w t n b)
look_idles w t n true = λ a e. refl
look_idles w t n false = λ a e. absurd (cc)

-- ---- each place of a Go

module _ (w : WorldState) (t : ThreadId) (k : ℕ) (one : IsOneToOne w.berths) (at : berth_of w.berths t ≡ Some k)
    (busy : is_busy_place (place_at w k) ≡ true) where
  end_replies : (f : FatState) (r : Reply) → Leaves w t false (world_ended w k f r) (Some r)
  end_replies f reply.Ended = gone w t k f one at busy
  end_replies f r = went w t k (fats_changed w f Idle (return_alone atomic.Label t r)) one at busy (λ a e. refl)

  end_answers : (f : FatState) (x : Answer) (granted chosen : Option ThreadId)
      → LeavesBy w t false (after_end w k t (Ok (record { answer = x; granted = granted; chosen = chosen })) f)
  end_answers f (answer.Reply r) granted chosen = end_replies f r
  end_answers f answer.Parked granted chosen = quiet w t false w.fats one
  end_answers f answer.Quiet granted chosen = quiet w t false w.fats one

  end_leaves : (r : Result Done ActFault) (f : FatState) → LeavesBy w t false (after_end w k t r f)
  end_leaves (Ok d) f = end_answers f d.answer d.granted d.chosen
  end_leaves (Err x) f = quiet w t false w.fats one

  ending_leaves : (n : ℕ) → LeavesBy w t false (after_go_at true w k t (Ending n))
  ending_leaves n = by (nat_lt n (length w.words))
    where
      by : (b : Bool) → LeavesBy w t false (if b then accept (with_go w k (after_look w k t n)) (after_look w k t n).did
          else after_end w k t (outcome_of w.fats t action.End).answer (outcome_of w.fats t action.End).after)
      by true = went w t k (after_look w k t n) one at busy (look_idles w t n (is_own (lock_at w n) (k + 1)))
      by false = end_leaves (outcome_of w.fats t action.End).answer (outcome_of w.fats t action.End).after

  collect_leaves : (r : Result Done ActFault) (f : FatState) → LeavesBy w t false (after_collect w k t r f)
  collect_leaves (Ok d) f = went w t k (fats_changed w f Idle (did_collect t d.answer)) one at busy (λ a e. refl)
  collect_leaves (Err x) f = tt

go_at : (w : WorldState) (t : ThreadId) (k : ℕ) (q : Place) → IsOneToOne w.berths → berth_of w.berths t ≡ Some k → place_at w k ≡ q
    → LeavesBy w t false (after_go_at true w k t q)
go_at w t k Idle one at stands = tt
go_at w t k (InCall s) one at stands = went w t k (after_stage true w k t s) one at (ap is_busy_place stands) (stage_idles true w k t s)
go_at w t k (Ending n) one at stands = ending_leaves w t k one at (ap is_busy_place stands) n
go_at w t k AtPost one at stands =
    collect_leaves w t k one at (ap is_busy_place stands) (outcome_of w.fats t action.Collect).answer (outcome_of w.fats t action.Collect).after

pub go_leaves : (w : WorldState) (t : ThreadId) (b : Option ℕ) → IsOneToOne w.berths → berth_of w.berths t ≡ b
    → LeavesBy w t false (after_go true w t b)
go_leaves w t None one at = tt
go_leaves w t (Some k) one at = go_at w t k (place_at w k) one at refl

-- ---- a begin

begins : (w : WorldState) (t : ThreadId) (k : ℕ) (q : Place) → IsOneToOne w.berths → berth_of w.berths t ≡ Some k
    → Leaves w t true (record w { places = slice_set w.places k q }) None
begins w t k q one at = record {
  one = one;
  began = λ u h. by u h (cases_eq u.0 t.0);
  over = λ a e. absurd (cc);
}
  where
    by : (u : ThreadId) → is_busy_berth (slice_set w.places k q) (berth_of w.berths u) ≡ true → (u.0 ≡ t.0) ⊎ (u.0 ≡ t.0 → ⊥)
        → (is_busy w u ≡ true) ⊎ ((true ≡ true) × (u.0 ≡ t.0))
    by u h (inl same) = inr (refl, same)
    by u h (inr ne) = inl (sym (other_stays w.berths w.places t u k q at ne) ∙ h)

begin_at : (w : WorldState) (t : ThreadId) (k : ℕ) (c : Call) (q : Place) → IsOneToOne w.berths → berth_of w.berths t ≡ Some k
    → LeavesBy w t true (after_begin_at w k t c q)
begin_at w t k c Idle one at = begins w t k (first_place (subject_of c)) one at
begin_at w t k c (InCall s) one at = tt
begin_at w t k c (Ending n) one at = tt
begin_at w t k c AtPost one at = tt

begin_on : (w : WorldState) (t : ThreadId) (k : ℕ) (c : Call) (o : Option ObjectId) → IsOneToOne w.berths → berth_of w.berths t ≡ Some k
    → LeavesBy w t true (after_begin_on w k t c o)
begin_on w t k c None one at = begin_at w t k c (place_at w k) one at
begin_on w t k c (Some o) one at = by (nat_lt o.0 (length w.words))
  where
    by : (b : Bool) → LeavesBy w t true (if b then after_begin_at w k t c (place_at w k) else refuse w fault.NoObject)
    by true = begin_at w t k c (place_at w k) one at
    by false = tt

pub begin_leaves : (w : WorldState) (t : ThreadId) (c : Call) (b : Option ℕ) → IsOneToOne w.berths → berth_of w.berths t ≡ b
    → LeavesBy w t true (after_begin w t c b)
begin_leaves w t c None one at = tt
begin_leaves w t c (Some k) one at = begin_on w t k c (object_of c) one at
