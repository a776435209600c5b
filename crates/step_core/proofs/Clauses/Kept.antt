-- Each step keeps the objects, and bits 7 to 0 of each word.
use Rattle.std.specs.Prelude.{◌≡◌, ◌⊎◌, ℕ, ◌+◌, ◌<◌, Bool, true, false, nat_lt, length, set, get_or, Option, Some, None, Result, Ok, Err}
use Rattle.std.proofs.Common.{refl, arith, ap, ◌∙◌, inl, inr, get_or-set_same, get_or-set_other, length-set}
use Rattle.std.proofs.lemmas.Bool.{cases_eq, cond_both}
use Rattle.lock_word.specs.declared.ThreadId.{ThreadId}
use Rattle.lock_word.specs.declared.ObjectId.{ObjectId}
use Rattle.lock_word.specs.declared.Lock.{Lock}
use Rattle.lock_word.specs.declared.Lock.TheVariants.{Free, Thin, Fat}
use Rattle.lock_word.specs.Layout.{Fits, low_of}
use Rattle.lock_word.proofs.Words.{low_kept}
use Rattle.thread_index.specs.Indices.{berth_of, free_berth}
use Rattle.fat_monitor.specs.declared.actions.Cause.{Cause}
use Rattle.fat_monitor.specs.declared.actions.Action.{Action}
use Rattle.fat_monitor.specs.declared.actions.Done.{Done}
use Rattle.fat_monitor.specs.declared.actions.ActFault.{ActFault}
use Rattle.fat_monitor.specs.FatState.{FatState, with_moment, owns_one}
use Rattle.fat_monitor.specs.Acting.{outcome_of}
use Rattle.fast_path.specs.declared.calls.Call.{Call}
use Rattle.fast_path.specs.declared.Next.{Next}
use Rattle.fast_path.specs.declared.Next.TheVariants as next
use Rattle.fast_path.specs.declared.calls.MonitorCall.{MonitorCall}
use Rattle.fast_path.specs.Calls.{call_of, call_about}
use Rattle.fast_path.specs.Table.{next_of}
use Rattle.step_core.specs.declared.places.Stage.{Stage}
use Rattle.step_core.specs.declared.places.Stage.TheVariants.{Begun, Taking, Storing, Binding, Acting, Won, Bound, Inflated, Direct}
use Rattle.step_core.specs.declared.machine.Move.TheVariants as move
use Rattle.step_core.specs.declared.steps.Atomic.TheVariants.{Label}
use Rattle.step_core.specs.declared.steps.Step.{Step}
use Rattle.step_core.specs.declared.steps.Step.TheVariants as step
use Rattle.step_core.specs.declared.steps.Fault.TheVariants as fault
use Rattle.step_core.specs.World.{WorldState, is_own, word_at, lock_at, low_word}
use Rattle.step_core.specs.Sound.{IsSound, FittingStage}
use Rattle.step_core.specs.Did.{one_move}
use Rattle.step_core.specs.Go.{AfterGo, with_go, new_word, after_load, after_take, after_store, after_bind, after_publish, after_told, after_act, after_look_as, after_stage, action_on, action_about, entering, bind_cause}
use Rattle.step_core.specs.Step.{AfterStep, accept, refuse, after_attach, after_begin, after_go, WaitEnd, time_over, wake_up, after_wait_end, after_wait_end_as, after_tick, step_of}
use Rattle.step_core.specs.Kept.{Keeps}
use Rattle.step_core.proofs.Facts.Cases.{ended_as, begin_cases, go_cases}
use Rattle.step_core.proofs.Facts.OneThread.{thin_fits}
use Rattle.step_core.proofs.Runs.StageRuns.{storing}
use Rattle.step_core.proofs.Sound.Stages.{store_fits, number_fits}

-- nothing is written
same : (w w' : WorldState) → w'.words ≡ w.words → Keeps w w'
same w w' e = record { objects = ap (λ xs. length xs) e; low_bytes = λ p. ap (λ xs. low_of (get_or xs p (low_word 0)).0) e }

module _ (w : WorldState) (k : ℕ) where
  -- a word gets another lock
  written : (o : ObjectId) (l : Lock) (a : AfterGo) → a.words ≡ set w.words o.0 (new_word w o l) → Fits w.split l → o.0 < length w.words → Keeps w (with_go w k a)
  written o l a e fits inside = record {
    objects = ap (λ xs. length xs) e ∙ length-set w.words o.0 (new_word w o l);
    low_bytes = λ q. ap (λ xs. low_of (get_or xs q (low_word 0)).0) e ∙ at_object q (cases_eq q o.0);
  } where
    at_object : (q : ℕ) → (q ≡ o.0) ⊎ (q ≡ o.0 → ⊥) → low_of (get_or (set w.words o.0 (new_word w o l)) q (low_word 0)).0 ≡ low_of (word_at w q).0
    at_object q (inl e) = rw (e, get_or-set_same w.words o.0 (new_word w o l) (low_word 0) inside) (low_kept w.split (word_at w o.0).0 l)
    at_object q (inr ne) = rw (get_or-set_other w.words o.0 q (new_word w o l) (low_word 0) ne) refl

module _ (w : WorldState) (sound : IsSound w) (k : ℕ) (t : ThreadId) (berth : berth_of w.berths t ≡ Some k) where
  loads : (c : MonitorCall) (b : Bool) (n : Next) → Keeps w (with_go w k (after_load w t c b n))
  loads c b (next.Reply r) = same w _ refl
  loads c b (next.Cas l) = same w _ refl
  loads c b (next.Store l) = same w _ refl
  loads c b next.Bind = same w _ refl
  loads c b (next.Fat m) = same w _ refl
  loads c b next.Spin = same w _ refl

  takes : (o : ObjectId) (b : Bool) (l : Lock) → o.0 < length w.words → Keeps w (with_go w k (after_take w k t o b l))
  takes o true Free h = written w k o (Thin (k + 1) 0) (after_take w k t o true Free) refl (thin_fits w sound k t berth 0 (omega arith)) h
  takes o false Free h = written w k o (Thin (k + 1) 0) (after_take w k t o false Free) refl (thin_fits w sound k t berth 0 (omega arith)) h
  takes o b (Thin i n) h = same w _ refl
  takes o b (Fat m) h = same w _ refl

  binds : (c : MonitorCall) (won : Bool) (n : ℕ) (refusal : Option Cause) → Keeps w (with_go w k (after_bind w t c won n refusal))
  binds c won n None = same w _ refl
  binds c true n (Some x) = same w _ refl
  binds c false n (Some x) = same w _ refl

  publishes : (c : MonitorCall) (won : Bool) (m : ℕ) → FittingStage w k (Bound c won m) → Keeps w (with_go w k (after_publish w t c won m))
  publishes c true m fit = written w k c.object (Fat m) (after_publish w t c true m) refl (number_fits w sound k t berth m fit.1) fit.0
  publishes c false m fit = written w k c.object (Fat m) (after_publish w t c false m) refl (number_fits w sound k t berth m fit.1) fit.0

  tells : (c : Call) (a : Action) (r : Result Done ActFault) (f : FatState) → Keeps w (with_go w k (after_told w t c a r f))
  tells c a (Ok d) f = same w _ refl
  tells c a (Err e) f = same w _ refl

  acts : (c : Call) (a : Action) → Keeps w (with_go w k (after_act w t c a))
  acts c a = tells c a (outcome_of w.fats t a).answer (outcome_of w.fats t a).after

  looks : (n : ℕ) (own : Bool) → Keeps w (with_go w k (after_look_as w t n own))
  looks n true = same w _ refl
  looks n false = same w _ refl

  stages : (room : Bool) (s : Stage) → FittingStage w k s → Keeps w (with_go w k (after_stage room w k t s))
  stages room (Begun c b) fit = loads c b (next_of w.split c.operation (lock_at w c.object.0) (k + 1))
  stages room (Taking o b) fit = takes o b (lock_at w o.0) fit
  stages room (Storing c l) fit = written w k c.object l (after_store w t c l) refl (store_fits w sound k t berth c.object c.operation l (storing w k c l fit)) fit.0
  stages room (Binding c n) fit = binds c false (n + 1) (bind_cause room w.fats)
  stages room (Acting c m) fit = acts (call_of c) (action_on c.operation m)
  stages room (Won o) fit = binds (entering o) true 1 (bind_cause room w.fats)
  stages room (Bound c won m) fit = publishes c won m fit
  stages room (Inflated c m) fit = acts (call_of c) (action_on c.operation m)
  stages room (Direct c) fit = acts (call_about c) (action_about c)

attaches : (w : WorldState) (room : Bool) (t : ThreadId) (o f : Option ℕ) → Keeps w (after_attach room w t o f).after
attaches w room t (Some k) f = same w _ refl
attaches w room t None None = same w _ refl
attaches w true t None (Some k) = same w _ refl
attaches w false t None (Some k) = same w _ refl

begins : (w : WorldState) (t : ThreadId) (c : Call) → Keeps w (after_begin w t c (berth_of w.berths t)).after
begins w t c = begin_cases w t c (λ o. Keeps w o.after) (λ none. same w _ refl) (λ k o berth names past. same w _ refl) (λ k berth there busy. same w _ refl)
    (λ k berth there at. same w _ refl)

ends : (w : WorldState) (k : ℕ) (t : ThreadId) (b : Bool) → Keeps w (ended_as w k t b).after
ends w k t true = same w _ refl
ends w k t false = same w _ refl

wents : (w : WorldState) → IsSound w → (t : ThreadId) (room : Bool) → Keeps w (after_go room w t (berth_of w.berths t)).after
wents w sound t = go_cases w sound t (λ o. Keeps w o.after)
    (λ none. same w _ refl)
    (λ k berth at. same w _ refl)
    (λ k berth out room s at fit. stages w sound k t berth room s fit)
    (λ k berth out n at more. looks w sound k t berth n (is_own (lock_at w n) (k + 1)))
    (λ k berth out n at all. ends w k t (owns_one w.fats.monitors t))
    (λ k berth at stands. same w _ refl)
    (λ k berth r at granted. same w _ refl)

wait_ends_as : (x : WaitEnd) (w : WorldState) (t : ThreadId) (r : Result Done ActFault) (f : FatState) → Keeps w (after_wait_end_as x w t r f).after
wait_ends_as x w t (Ok d) f = same w _ refl
wait_ends_as x w t (Err e) f = same w _ refl

wait_ends : (x : WaitEnd) (w : WorldState) (t : ThreadId) (o : Option ℕ) → Keeps w (after_wait_end x w t o).after
wait_ends x w t None = same w _ refl
wait_ends x w t (Some k) = wait_ends_as x w t (outcome_of w.fats t x.action).answer (outcome_of w.fats t x.action).after

ticks : (w : WorldState) (now : ℕ) → Keeps w (after_tick w now).after
ticks w now =
    cond_both (nat_lt now w.fats.moment) (refuse w fault.Backwards) (accept (record w { fats = with_moment w.fats now }) (one_move Label (move.Time now))) (λ (o : AfterStep). Keeps w o.after)
    (λ _. same w _ refl) (λ _. same w _ refl)

-- Each step keeps the objects and the low bytes.
pub step_keeps : (w : WorldState) → IsSound w → (room : Bool) (s : Step) → Keeps w (step_of room w s).after
step_keeps w sound room (step.Attach t) = attaches w room t (berth_of w.berths t) (free_berth w.berths)
step_keeps w sound room (step.Begin t c) = begins w t c
step_keeps w sound room (step.Go t) = wents w sound t room
step_keeps w sound room (step.Expire t) = wait_ends time_over w t (berth_of w.berths t)
step_keeps w sound room (step.Spurious t) = wait_ends wake_up w t (berth_of w.berths t)
step_keeps w sound room (step.Tick now) = ticks w now
