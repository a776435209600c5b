-- Who is in a call behind a step, and who was: a begin brings its thread into a call, and a reply out of it.
use native.Mathlib.Omega.{arith}
use Rattle.std.proofs.Common.{◌≡◌, ◌∙◌, sym, ap, refl, subst, ℕ, ◌+◌, ◌<◌, Bool, true, false, length, Option, Some, None, Result, Ok, Err}
use Rattle.std.specs.Prelude.{MatchResult, slice_set}
use Rattle.std.proofs.lemmas.List.{get_or-set_same}
use Rattle.lock_word.specs.declared.ThreadId.{ThreadId}
use Rattle.lock_word.specs.declared.Lock.{Lock}
use Rattle.lock_word.specs.declared.Lock.TheVariants.{Free, Thin, Fat}
use Rattle.lock_word.specs.declared.ObjectId.{ObjectId}
use Rattle.fat_monitor.specs.Acting.{outcome_of}
use Rattle.fat_monitor.specs.FatState.{FatState, owns_one, with_post}
use Rattle.fat_monitor.specs.declared.actions.ActFault.{ActFault}
use Rattle.fat_monitor.specs.declared.actions.Action.{Action}
use Rattle.fat_monitor.specs.declared.actions.Answer.{Answer}
use Rattle.fat_monitor.specs.declared.actions.Answer.TheVariants as answer
use Rattle.fat_monitor.specs.declared.actions.Cause.{Cause}
use Rattle.fat_monitor.specs.declared.actions.Done.{Done}
use Rattle.fat_monitor.specs.declared.actions.Reply.{Reply}
use Rattle.fat_monitor.specs.declared.actions.Post.TheVariants.{Out}
use Rattle.fast_path.specs.Calls.{call_about, call_of, subject_of}
use Rattle.fast_path.specs.Table.{next_of}
use Rattle.fast_path.specs.declared.Next.{Next}
use Rattle.fast_path.specs.declared.Next.TheVariants as next
use Rattle.fast_path.specs.declared.calls.Call.{Call}
use Rattle.fast_path.specs.declared.calls.MonitorCall.{MonitorCall}
use Rattle.fast_path.specs.declared.calls.Subject.{Subject}
use Rattle.fast_path.specs.declared.calls.Subject.TheVariants as subject
use Rattle.thread_index.specs.Indices.{berth_of}
use Rattle.thread_index.proofs.Berths.{berth_found, berth_given_other, berth_given_same}
use Rattle.step_core.specs.Did.{grant_of, move_for, move_grant_and_return}
use Rattle.step_core.specs.Machine.{Exists}
use Rattle.step_core.specs.Path.{IsTold}
use Rattle.step_core.specs.Ready.{IsOwnAction}
use Rattle.step_core.specs.Go.{AfterGo, action_about, action_on, after_act, after_bind, after_load, after_look_as, after_publish, after_stage, after_take, after_told, bind_cause, entering, fats_changed, with_go}
use Rattle.step_core.specs.Sound.{IsSound}
use Rattle.step_core.specs.Step.{accept, after_begin_at, after_look, first_place, step_of}
use Rattle.step_core.specs.World.{WorldState, is_own, lock_at, place_at}
use Rattle.step_core.specs.declared.machine.Move.{Move}
use Rattle.step_core.specs.declared.places.Place.{Place}
use Rattle.step_core.specs.declared.places.Place.TheVariants.{Idle, InCall, Ending, AtPost}
use Rattle.step_core.specs.declared.places.Stage.{Stage}
use Rattle.step_core.specs.declared.places.Stage.TheVariants.{Begun, Taking, Storing, Binding, Acting, Won, Bound, Inflated, Direct}
use Rattle.step_core.specs.declared.steps.Atomic.{Atomic}
use Rattle.step_core.specs.declared.steps.Atomic.TheVariants as atomic
use Rattle.step_core.specs.declared.steps.Did.{Did}
use Rattle.step_core.specs.declared.steps.Fault.{Fault}
use Rattle.step_core.specs.declared.steps.Step.TheVariants as step
use Rattle.step_core.proofs.Clauses.Patient.{done, own_about, own_on}
use Rattle.step_core.proofs.Facts.Cases.{begin_cases, collected_as, did_return, ended_as, go_cases}
use Rattle.explore.specs.Replies.{reply_in}
use Rattle.explore.specs.States.{did_in}
use Rattle.explore.proofs.Busy.{Idles, is_busy, is_busy_berth, is_busy_place, look_idles, other_stays, stage_idles}

-- ---- a Go without a reply leaves its thread in a call

abbrev Stays : AfterGo → Type 0
Stays a = a.did.reply ≡ None → is_busy_place a.place ≡ true

load_stays : (w : WorldState) (t : ThreadId) (c : MonitorCall) (b : Bool) (n : Next) → Stays (after_load w t c b n)
load_stays w t c b (next.Reply r) = λ e. absurd (cc)
load_stays w t c b (next.Cas l) = λ e. refl
load_stays w t c b (next.Store l) = λ e. refl
load_stays w t c b next.Bind = λ e. refl
load_stays w t c b (next.Fat m) = λ e. refl
load_stays w t c b next.Spin = λ e. refl

take_stays : (w : WorldState) (k : ℕ) (t : ThreadId) (o : ObjectId) (b : Bool) (l : Lock) → Stays (after_take w k t o b l)
take_stays w k t o true Free = λ e. refl
take_stays w k t o false Free = λ e. absurd (cc)
take_stays w k t o b (Thin i c) = λ e. refl
take_stays w k t o b (Fat m) = λ e. refl

bind_stays : (w : WorldState) (t : ThreadId) (c : MonitorCall) (won : Bool) (n : ℕ) (x : Option Cause) → Stays (after_bind w t c won n x)
bind_stays w t c won n None = λ e. refl
bind_stays w t c true n (Some x) = λ e. absurd (cc)
bind_stays w t c false n (Some x) = λ e. absurd (cc)

publish_stays : (w : WorldState) (t : ThreadId) (c : MonitorCall) (won : Bool) (m : ℕ) → Stays (after_publish w t c won m)
publish_stays w t c true m = λ e. absurd (cc)
publish_stays w t c false m = λ e. refl

granted_replies : (a : Atomic) (m : Move) (g : Option Move) (t : ThreadId) (r : Reply) → (move_grant_and_return a m g t r).reply ≡ Some r
granted_replies a m None t r = refl
granted_replies a m (Some x) t r = refl

act_stays : (w : WorldState) (t : ThreadId) (c : Call) (a : Action) → IsOwnAction a → Stays (after_act w t c a)
act_stays w t c a own = by (outcome_of w.fats t a).answer (outcome_of w.fats t a).after (done w.fats t a own)
  where
    answered : (f : FatState) (x : Answer) (granted chosen : Option ThreadId)
        → Stays (after_told w t c a (Ok (record { answer = x; granted = granted; chosen = chosen })) f)
    answered f (answer.Reply r) granted chosen =
        λ e. absurd (let is = granted_replies (atomic.Acted a (answer.Reply r)) (move_for c r chosen t) (grant_of f granted) t r in let never = sym is ∙ e in cc)
    answered f answer.Parked granted chosen = λ e. refl
    answered f answer.Quiet granted chosen = λ e. refl

    by : (x : Result Done ActFault) (f : FatState) → MatchResult x (λ d. IsTold d.answer) (λ e. ⊥) → Stays (after_told w t c a x f)
    by (Ok d) f told = answered f d.answer d.granted d.chosen
    by (Err e) f told = absurd told

stage_stays : (room : Bool) (w : WorldState) (k : ℕ) (t : ThreadId) (s : Stage) → Stays (after_stage room w k t s)
stage_stays room w k t (Begun c b) = load_stays w t c b (next_of w.split c.operation (lock_at w c.object.0) (k + 1))
stage_stays room w k t (Taking o b) = take_stays w k t o b (lock_at w o.0)
stage_stays room w k t (Storing c l) = λ e. absurd (cc)
stage_stays room w k t (Binding c n) = bind_stays w t c false (n + 1) (bind_cause room w.fats)
stage_stays room w k t (Acting c m) = act_stays w t (call_of c) (action_on c.operation m) (own_on c.operation m)
stage_stays room w k t (Won o) = bind_stays w t (entering o) true 1 (bind_cause room w.fats)
stage_stays room w k t (Bound c won m) = publish_stays w t c won m
stage_stays room w k t (Inflated c m) = act_stays w t (call_of c) (action_on c.operation m) (own_on c.operation m)
stage_stays room w k t (Direct c) = act_stays w t (call_about c) (action_about c) (own_about c)

look_stays : (w : WorldState) (t : ThreadId) (n : ℕ) (b : Bool) → Stays (after_look_as w t n b)
look_stays w t n true = λ e. absurd (cc)
look_stays w t n false = λ e. refl

-- ---- what a step does to who is in a call

-- the others are where they were
abbrev OthersSame : WorldState → ThreadId → WorldState → Type 0
OthersSame w t v = (u : ThreadId) → (u.0 ≡ t.0 → ⊥) → is_busy v u ≡ is_busy w u

-- a begin of t was accepted
pub record Begins (w : WorldState) (t : ThreadId) (v : WorldState) : Type 0 where
  pub others : OthersSame w t v
  pub was : is_busy w t ≡ false
  pub now : is_busy v t ≡ true

-- a Go of t was accepted, with this reply, if any
pub record Goes (w : WorldState) (t : ThreadId) (v : WorldState) (r : Option Reply) : Type 0 where
  pub others : OthersSame w t v
  pub was : is_busy w t ≡ true
  pub silent : r ≡ None → is_busy v t ≡ true
  pub replied : (a : Reply) → r ≡ Some a → is_busy v t ≡ false

first_busy : (x : Subject) → is_busy_place (first_place x) ≡ true
first_busy (subject.Monitor c) = refl
first_busy (subject.Interrupt c) = refl
first_busy subject.End = refl

module _ (w : WorldState) (sound : IsSound w) (t : ThreadId) where
  within : (k : ℕ) → berth_of w.berths t ≡ Some k → k < length w.places
  within k at = let found = berth_found w.berths t k at in let lt = found.0 in let berthed = sound.berthed in omega (arith, lt, berthed)

  -- t, at berth k, stands at this place
  own_there : (k : ℕ) (q : Place) → berth_of w.berths t ≡ Some k → is_busy_berth (slice_set w.places k q) (berth_of w.berths t) ≡ is_busy_place q
  own_there k q at = ap (is_busy_berth (slice_set w.places k q)) at ∙ ap is_busy_place (get_or-set_same w.places k q Idle (within k at))

  own_was : (k : ℕ) (q : Place) → berth_of w.berths t ≡ Some k → place_at w k ≡ q → is_busy w t ≡ is_busy_place q
  own_was k q at here = ap (is_busy_berth w.places) at ∙ ap is_busy_place here

  others_same : (k : ℕ) (q : Place) → berth_of w.berths t ≡ Some k → (u : ThreadId) → (u.0 ≡ t.0 → ⊥)
      → is_busy_berth (slice_set w.places k q) (berth_of w.berths u) ≡ is_busy w u
  others_same k q at u ne = other_stays w.berths w.places t u k q at ne

  pub begin_busies : (c : Call) (d : Did) → (step_of true w (step.Begin t c)).answer ≡ Ok d → Begins w t (step_of true w (step.Begin t c)).after
  begin_busies c = begin_cases w t c (λ o. (d : Did) → o.answer ≡ Ok d → Begins w t o.after) (λ e d h. absurd (cc)) (λ k o at names le d h. absurd (cc)) (λ k at there busy d h. absurd (cc)) begins
    where
      begins : (k : ℕ) → berth_of w.berths t ≡ Some k → Exists (length w.words) c → place_at w k ≡ Idle
          → (d : Did) → (after_begin_at w k t c Idle).answer ≡ Ok d → Begins w t (after_begin_at w k t c Idle).after
      begins k at there idle d h = record {
        others = others_same k (first_place (subject_of c)) at;
        was = own_was k Idle at idle;
        now = own_there k (first_place (subject_of c)) at ∙ first_busy (subject_of c);
      }

  went : (k : ℕ) (a : AfterGo) → berth_of w.berths t ≡ Some k → is_busy_place (place_at w k) ≡ true → Idles a → Stays a → Goes w t (with_go w k a) a.did.reply
  went k a at busy idles stays = record {
    others = others_same k a.place at;
    was = ap (is_busy_berth w.places) at ∙ busy;
    silent = λ e. own_there k a.place at ∙ stays e;
    replied = λ r e. own_there k a.place at ∙ ap is_busy_place (idles r e);
  }

  over : (k : ℕ) → berth_of w.berths t ≡ Some k → is_busy_place (place_at w k) ≡ true → (b : Bool) (d : Did) → (ended_as w k t b).answer ≡ Ok d
      → Goes w t (ended_as w k t b).after d.reply
  over k at busy true d h = record {
    others = others_same k Idle at;
    was = ap (is_busy_berth w.places) at ∙ busy;
    silent = λ e. absurd (let said = ap (λ (x : Result Did Fault). reply_in (did_in x)) h in let never = said ∙ e in cc);
    replied = λ r e. own_there k Idle at;
  }
  over k at busy false d h = record {
    others = λ u ne.
        ap (is_busy_berth (slice_set w.places k Idle)) (berth_given_other w.berths t u k at ne) ∙ others_same k Idle at u ne;
    was = ap (is_busy_berth w.places) at ∙ busy;
    silent = λ e. absurd (let said = ap (λ (x : Result Did Fault). reply_in (did_in x)) h in let never = said ∙ e in cc);
    replied = λ r e. ap (is_busy_berth (slice_set w.places k Idle)) (berth_given_same w.berths t k sound.one_to_one at);
  }

  pub go_busies : (d : Did) → (step_of true w (step.Go t)).answer ≡ Ok d → Goes w t (step_of true w (step.Go t)).after d.reply
  go_busies =
      go_cases w sound t (λ o. (d : Did) → o.answer ≡ Ok d → Goes w t o.after d.reply)
      (λ e d h. absurd (cc)) (λ k at idle d h. absurd (cc))
      (λ k at out room s here fits d h. stages k at room s here d h)
      (λ k at out m here lt d h. looks k at m here d h)
      (λ k at out m here le d h. over k at (ap is_busy_place here) (owns_one w.fats.monitors t) d h)
      (λ k at here stands d h. absurd (cc))
      (λ k at r here granted d h. collects k at r here d h) true
    where
      told : (a : AfterGo) (v : WorldState) (d : Did) → ◌≡◌ {A = Result Did Fault} (Ok a.did) (Ok d) → Goes w t v a.did.reply → Goes w t v d.reply
      told a v d h goes = subst (λ (r : Option Reply). Goes w t v r) (ap (λ (x : Result Did Fault). reply_in (did_in x)) h) goes

      stages : (k : ℕ) → berth_of w.berths t ≡ Some k → (room : Bool) (s : Stage) → place_at w k ≡ InCall s
          → (d : Did) → (accept (with_go w k (after_stage room w k t s)) (after_stage room w k t s).did).answer ≡ Ok d → Goes w t (with_go w k (after_stage room w k t s)) d.reply
      stages k at room s here d h =
          let a : AfterGo = after_stage room w k t s in
          told a (with_go w k a) d h (went k a at (ap is_busy_place here) (stage_idles room w k t s) (stage_stays room w k t s))

      looks : (k : ℕ) → berth_of w.berths t ≡ Some k → (m : ℕ) → place_at w k ≡ Ending m
          → (d : Did) → (accept (with_go w k (after_look w k t m)) (after_look w k t m).did).answer ≡ Ok d → Goes w t (with_go w k (after_look w k t m)) d.reply
      looks k at m here d h =
          let a : AfterGo = after_look w k t m in
          let own = is_own (lock_at w m) (k + 1) in
          told a (with_go w k a) d h (went k a at (ap is_busy_place here) (look_idles w t m own) (look_stays w t m own))

      collects : (k : ℕ) → berth_of w.berths t ≡ Some k → (r : Reply) → place_at w k ≡ AtPost → (d : Did) → (collected_as w k t r).answer ≡ Ok d → Goes w t (collected_as w k t r).after d.reply
      collects k at r here d h =
          let a : AfterGo = fats_changed w (with_post w.fats t Out) Idle (did_return t r) in
          told a (with_go w k a) d h (went k a at (ap is_busy_place here) (λ x e. refl) (λ e. absurd (cc)))
