-- Each step is a run of the machine and keeps the world sound.
use Rattle.step_core.proofs.Sound.End.{Right, ended_right}
use Rattle.step_core.proofs.Sound.Attach.{attached_right}
use Rattle.step_core.proofs.Sound.WaitEnds.{expired_right, woken_right, ticked_right}
use Rattle.std.specs.Prelude.{◌≡◌, ℕ, ◌+◌, Bool, true, List, [], ◌∷◌, ◌++◌, length, Option, Some, Result}
use Rattle.std.proofs.Common.{arith, refl, sym, ◌∙◌, subst, ap}
use Rattle.lock_word.specs.declared.ThreadId.{ThreadId}
use Rattle.thread_index.specs.Indices.{berth_of, free_berth}
use Rattle.fat_monitor.specs.declared.actions.Post.{Post}
use Rattle.fat_monitor.specs.declared.actions.Post.TheVariants.{Out}
use Rattle.fat_monitor.specs.FatState.{post_of, flag_at}
use Rattle.fast_path.specs.declared.calls.Call.{Call}
use Rattle.fast_path.specs.declared.calls.Call.TheVariants as call
use Rattle.fast_path.specs.declared.calls.Subject.{Subject}
use Rattle.fast_path.specs.declared.calls.Subject.TheVariants as subject
use Rattle.fast_path.specs.Calls.{subject_of}
use Rattle.step_core.specs.declared.machine.Doing.{Doing}
use Rattle.step_core.specs.declared.machine.Doing.TheVariants as doing
use Rattle.step_core.specs.declared.places.Place.{Place}
use Rattle.step_core.specs.declared.places.Place.TheVariants.{Idle, Ending}
use Rattle.step_core.specs.declared.machine.Move.{Move}
use Rattle.step_core.specs.declared.machine.Move.TheVariants as move
use Rattle.step_core.specs.declared.steps.Atomic.TheVariants.{Label}
use Rattle.step_core.specs.declared.steps.Step.{Step}
use Rattle.step_core.specs.declared.steps.Step.TheVariants as step
use Rattle.step_core.specs.declared.steps.Did.{Did}
use Rattle.step_core.specs.declared.steps.Fault.{Fault}
use Rattle.step_core.specs.Machine.{State, Run, now_is, Exists}
use Rattle.step_core.specs.World.{WorldState, place_at, lock_at, is_own}
use Rattle.step_core.specs.Shown.{shown, doing_of}
use Rattle.step_core.specs.Sound.{IsSound, Fitting, Agrees}
use Rattle.step_core.specs.Did.{one_move}
use Rattle.step_core.specs.Step.{AfterStep, after_attach, after_begin, after_begin_at, after_go, after_wait_end, time_over, wake_up, after_tick, step_of, moves_of, first_place}
use Rattle.step_core.proofs.Facts.OneThread.{within, is_at, out_at, shown_stays}
use Rattle.step_core.proofs.Facts.Cases.{did_return, begin_cases, go_cases}
use Rattle.step_core.proofs.Runs.NotifyRuns.{collect_run}
use Rattle.step_core.proofs.Runs.WordRuns.{look_run}
use Rattle.step_core.proofs.Runs.StageRuns.{stage_run}
use Rattle.step_core.proofs.Sound.Stages.{stage_sound, look_sound, collect_sound}
use Rattle.step_core.proofs.Sound.Parts.{sound_stays}

module _ (w : WorldState) (sound : IsSound w) (t : ThreadId) where
  -- each Go keeps the world sound
  went_sound : (room : Bool) → IsSound (after_go room w t (berth_of w.berths t)).after
  went_sound = go_cases w sound t (λ o. IsSound o.after)
      (λ none. sound)
      (λ k berth at. sound)
      (λ k berth out room s at fit. stage_sound w sound k t berth out room s at fit)
      (λ k berth out n at more. look_sound w sound k t berth n (rw at refl) out (fit_at k berth (Ending n) at) more)
      (λ k berth out n at all. (ended_right w sound k t berth n at all).0)
      (λ k berth at stands. sound)
      (λ k berth r at granted. collect_sound w sound k t berth r at granted (did_return t r))
    where
      fit_at : (k : ℕ) → berth_of w.berths t ≡ Some k → (p : Place) → place_at w k ≡ p → Fitting w k p
      fit_at k berth p at = subst (λ (x : Place). Fitting w k x) at (sound.places k (within w sound k t berth))

  -- and is a run
  went_right : (room : Bool) → Right w (after_go room w t (berth_of w.berths t))
  went_right room = (went_sound room, went_run)
    where
      went_run : Run (shown w) (moves_of (after_go room w t (berth_of w.berths t)).answer) (shown (after_go room w t (berth_of w.berths t)).after)
      went_run = go_cases w sound t (λ o. Run (shown w) (moves_of o.answer) (shown o.after))
          (λ none. refl)
          (λ k berth at. refl)
          (λ k berth out room s at fit. stage_run w sound k t berth out room s at fit)
          (λ k berth out n at more. look_run w sound k t berth out n (is_own (lock_at w n) (k + 1)) at refl)
          (λ k berth out n at all. (ended_right w sound k t berth n at all).1)
          (λ k berth at stands. refl)
          (λ k berth r at granted. collect_run w sound k t berth r at granted)
          room

  -- the place at which a call begins fits, and the thread wants the call there
  first_fits : (c : Call) (k : ℕ) → Exists (length w.words) c → Fitting w k (first_place (subject_of c))
  first_fits (call.Enter o) k h = h
  first_fits (call.Exit o) k h = h
  first_fits (call.Wait o millis nanos) k h = h
  first_fits (call.Notify o) k h = h
  first_fits (call.NotifyAll o) k h = h
  first_fits (call.Holds o) k h = h
  first_fits (call.Interrupt who) k h = tt
  first_fits call.Interrupted k h = tt
  first_fits (call.IsInterrupted who) k h = tt
  first_fits call.End k h = (omega arith, λ p l. absurd (omega arith))

  first_wants : (c : Call) → doing_of (first_place (subject_of c)) ≡ doing.Wants c
  first_wants (call.Enter o) = refl
  first_wants (call.Exit o) = refl
  first_wants (call.Wait o millis nanos) = refl
  first_wants (call.Notify o) = refl
  first_wants (call.NotifyAll o) = refl
  first_wants (call.Holds o) = refl
  first_wants (call.Interrupt who) = refl
  first_wants call.Interrupted = refl
  first_wants (call.IsInterrupted who) = refl
  first_wants call.End = refl

  first_agrees : (c : Subject) (p : Option Post) → p ≡ Some Out → Agrees (first_place c) p
  first_agrees (subject.Monitor c) p h = h
  first_agrees (subject.Interrupt c) p h = h
  first_agrees subject.End p h = h

  -- each Begin keeps the world sound, and is a run
  begun_right : (c : Call) → Right w (after_begin w t c (berth_of w.berths t))
  begun_right c = begin_cases w t c (Right w) (λ none. (sound, refl)) (λ k o berth names past. (sound, refl)) (λ k berth there busy. (sound, refl)) begins
    where
      begins : (k : ℕ) → berth_of w.berths t ≡ Some k → Exists (length w.words) c → place_at w k ≡ Idle → Right w (after_begin_at w k t c Idle)
      begins k berth there at =
          let out : post_of w.fats t ≡ Some Out = out_at w sound k t berth Idle at (λ x. cc) in (
            sound_stays w sound k t berth (first_place (subject_of c)) (one_move Label (move.Call t c)) (rw at refl) (first_agrees (subject_of c) (post_of w.fats t) out) (first_fits c k there),
            (
              now_is (shown w) t (flag_at w.fats t) (doing.Wants c),
              (flag_at w.fats t, is_at w sound k t berth Idle at out, there, refl),
              shown_stays w sound k t berth (first_place (subject_of c)) (one_move Label (move.Call t c)) out ∙ ap (λ (d : Doing). now_is (shown w) t (flag_at w.fats t) d) (first_wants c),
            ),
          )

-- A step keeps the world sound.
pub step_sound : (w : WorldState) → IsSound w → (room : Bool) (s : Step) → IsSound (step_of room w s).after
step_sound w sound room (step.Attach t) = (attached_right w sound t room (berth_of w.berths t) (free_berth w.berths) refl refl).0
step_sound w sound room (step.Begin t c) = (begun_right w sound t c).0
step_sound w sound room (step.Go t) = went_sound w sound t room
step_sound w sound room (step.Expire t) = (expired_right w sound t).0
step_sound w sound room (step.Spurious t) = (woken_right w sound t).0
step_sound w sound room (step.Tick now) = (ticked_right w sound now).0

-- And it is a run.
pub step_right : (w : WorldState) → IsSound w → (room : Bool) (s : Step) → Right w (step_of room w s)
step_right w sound room (step.Attach t) = attached_right w sound t room (berth_of w.berths t) (free_berth w.berths) refl refl
step_right w sound room (step.Begin t c) = begun_right w sound t c
step_right w sound room (step.Go t) = went_right w sound t room
step_right w sound room (step.Expire t) = expired_right w sound t
step_right w sound room (step.Spurious t) = woken_right w sound t
step_right w sound room (step.Tick now) = ticked_right w sound now

-- a run and then a run
pub Run-append : (s : State) (ms : List Move) (mid : State) (ns : List Move) (s' : State) → Run s ms mid → Run mid ns s' → Run s (ms ++ ns) s'
Run-append s [] mid ns s' a b = subst (λ (x : State). Run x ns s') a b
Run-append s (m ∷ ms) mid ns s' a b = (a.0, a.1, Run-append a.0 ms mid ns s' a.2 b)

-- what a step of the code left is sound
pub attach_kept : (w w' : WorldState) (t : ThreadId) (r : Result Did Fault) (room : Bool) → IsSound w
    → ◌≡◌ {A = AfterStep} (record { answer = r; after = w' }) (after_attach room w t (berth_of w.berths t) (free_berth w.berths)) → IsSound w'
attach_kept w w' t r room sound e = subst (λ (o : AfterStep). IsSound o.after) (sym e) (step_sound w sound room (step.Attach t))

pub begin_kept : (w w' : WorldState) (t : ThreadId) (c : Call) (r : Result Did Fault) → IsSound w
    → ◌≡◌ {A = AfterStep} (record { answer = r; after = w' }) (after_begin w t c (berth_of w.berths t)) → IsSound w'
begin_kept w w' t c r sound e = subst (λ (o : AfterStep). IsSound o.after) (sym e) (step_sound w sound true (step.Begin t c))

pub expire_kept : (w w' : WorldState) (t : ThreadId) (r : Result Did Fault) → IsSound w
    → ◌≡◌ {A = AfterStep} (record { answer = r; after = w' }) (after_wait_end time_over w t (berth_of w.berths t)) → IsSound w'
expire_kept w w' t r sound e = subst (λ (o : AfterStep). IsSound o.after) (sym e) (step_sound w sound true (step.Expire t))

pub wake_kept : (w w' : WorldState) (t : ThreadId) (r : Result Did Fault) → IsSound w
    → ◌≡◌ {A = AfterStep} (record { answer = r; after = w' }) (after_wait_end wake_up w t (berth_of w.berths t)) → IsSound w'
wake_kept w w' t r sound e = subst (λ (o : AfterStep). IsSound o.after) (sym e) (step_sound w sound true (step.Spurious t))

pub tick_kept : (w w' : WorldState) (now : ℕ) (r : Result Did Fault) → IsSound w
    → ◌≡◌ {A = AfterStep} (record { answer = r; after = w' }) (after_tick w now) → IsSound w'
tick_kept w w' now r sound e = subst (λ (o : AfterStep). IsSound o.after) (sym e) (step_sound w sound true (step.Tick now))
