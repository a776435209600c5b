-- The end of a wait by itself, and the moment: each of these steps keeps the world sound.
use Rattle.std.specs.Prelude.{◌≡◌, ◌≢◌, ◌⊎◌, ◌↔◌, ℕ, nat_lt, Option, Some, None, Result, Ok, Err}
use Rattle.std.specs.Option.{unwrap_or}
use Rattle.std.proofs.Common.{refl, ap, sym, ◌∙◌, inl, inr}
use Rattle.std.proofs.lemmas.Bool.{cases_eq, cond_both}
use Rattle.lock_word.specs.declared.ThreadId.{ThreadId}
use Rattle.wait_lines.specs.declared.Role.TheVariants.{Waiting as WaitSet}
use Rattle.thread_index.specs.Indices.{berth_of}
use Rattle.wait_lines.proofs.ThreadLemmas.{same_thread}
use Rattle.fat_monitor.specs.declared.actions.Action.TheVariants as action
use Rattle.fat_monitor.specs.declared.actions.ActFault.{ActFault}
use Rattle.fat_monitor.specs.declared.actions.Done.{Done}
use Rattle.fat_monitor.specs.declared.actions.Why.{Why}
use Rattle.fat_monitor.specs.declared.actions.Why.TheVariants.{Elapsed, Spurious}
use Rattle.fat_monitor.specs.declared.actions.Post.{Post}
use Rattle.fat_monitor.specs.declared.actions.Post.TheVariants.{Out, Entering, Waiting, Back, Granted}
use Rattle.fat_monitor.specs.FatState.{FatState, IsAttached, monitor_at, post_of, with_moment}
use Rattle.fat_monitor.specs.Acting.{outcome_of, Outcome as Told, expire_outcome, spurious_outcome, after_sending_back, reply_back, MayAct, NamesBound}
use Rattle.fat_monitor.proofs.Soundness.{IsSound-outcome_of}
use Rattle.fat_monitor.proofs.SoundSteps.{IsSound-moment}
use Rattle.fat_monitor.proofs.Effects.{named, post-with_post_same, length-outcome_of, object-outcome_of, other-outcome_of, count-outcome_of, attached-outcome_of, out-outcome_of}
use Rattle.step_core.specs.declared.machine.Move.TheVariants as move
use Rattle.step_core.specs.declared.steps.Atomic.TheVariants.{Label}
use Rattle.step_core.specs.declared.steps.Fault.TheVariants as fault
use Rattle.step_core.specs.World.{WorldState}
use Rattle.step_core.specs.Sound.{IsSound}
use Rattle.step_core.specs.Did.{one_move}
use Rattle.step_core.specs.Step.{AfterStep as Stepped, WaitEnd, time_over, wake_up, refuse, accept, after_wait_end, after_wait_end_as, after_tick}
use Rattle.step_core.proofs.Runs.WaitEndRuns.{expire_run, wake_run, tick_run}
use Rattle.step_core.proofs.Facts.Grants.{post-after_grant_same}
use Rattle.step_core.proofs.Sound.Parts.{sound_fats}
use Rattle.step_core.proofs.Sound.End.{Right}

-- the post of t is out in the one fat state where it is out in the other
abbrev OutAlike : FatState → ThreadId → FatState → Type 0
OutAlike f t g = (post_of g t ≡ Some Out) ↔ (post_of f t ≡ Some Out)

-- a post that is not out, in place of another that is not out
not_out : (f g : FatState) (t : ThreadId) (p q : Post) → post_of f t ≡ Some p → p ≢ Out → post_of g t ≡ Some q → q ≢ Out → OutAlike f t g
not_out f g t p q was old is new = (
  (λ h. absurd (let both : Some q ≡ Some Out = sym is ∙ h in new (cc))),
  (λ h. absurd (let both : Some p ≡ Some Out = sym was ∙ h in old (cc))),
)

-- Whoever leaves its wait set is not out before, nor after.
module _ (f : FatState) (t : ThreadId) where
  as_it_was : OutAlike f t f
  as_it_was = ((λ h. h), (λ h. h))

  back_out : (y : Why) (m n : ℕ) (d : Option ℕ) → post_of f t ≡ Some (Waiting m n d) → (o : Option ThreadId) → OutAlike f t (after_sending_back f t m (Back m n y) o)
  back_out y m n d e (Some owner) =
      not_out f (after_sending_back f t m (Back m n y) (Some owner)) t (Waiting m n d) (Back m n y) e (λ x. cc) (post-with_post_same f t (Back m n y)) (λ x. cc)
  back_out y m n d e None =
      not_out f (after_sending_back f t m (Back m n y) None) t (Waiting m n d) (Granted (reply_back y)) e (λ x. cc)
      (post-after_grant_same f m t (Back m n y) WaitSet) (λ x. cc)

  expire_outcome_out : (o : Option Post) → post_of f t ≡ o → OutAlike f t (expire_outcome f t (unwrap_or o Out)).after
  expire_outcome_out None e = as_it_was
  expire_outcome_out (Some Out) e = as_it_was
  expire_outcome_out (Some (Entering m)) e = as_it_was
  expire_outcome_out (Some (Waiting m n None)) e = as_it_was
  expire_outcome_out (Some (Waiting m n (Some d))) e =
      cond_both (nat_lt f.moment d) _ _ (λ (x : Told). OutAlike f t x.after) (λ _. as_it_was) (λ _. back_out Elapsed m n (Some d) e (monitor_at f m).owner)
  expire_outcome_out (Some (Back m n w)) e = as_it_was
  expire_outcome_out (Some (Granted r)) e = as_it_was

  spurious_outcome_out : (o : Option Post) → post_of f t ≡ o → OutAlike f t (spurious_outcome f t (unwrap_or o Out)).after
  spurious_outcome_out None e = as_it_was
  spurious_outcome_out (Some Out) e = as_it_was
  spurious_outcome_out (Some (Entering m)) e = as_it_was
  spurious_outcome_out (Some (Waiting m n d)) e = back_out Spurious m n d e (monitor_at f m).owner
  spurious_outcome_out (Some (Back m n w)) e = as_it_was
  spurious_outcome_out (Some (Granted r)) e = as_it_was

module _ (w : WorldState) (sound : IsSound w) (t : ThreadId) where
  -- The world stays sound where the wait ends so,
  module _ (x : WaitEnd) (other : x.action ≢ action.End) (unnamed : (m : ℕ) → named x.action ≢ Some m) (bound : NamesBound w.fats x.action)
      (may : IsAttached w.fats t → MayAct w.fats t x.action) (out : OutAlike w.fats t (outcome_of w.fats t x.action).after) where
    ended_sound : IsAttached w.fats t → IsSound (record w { fats = (outcome_of w.fats t x.action).after })
    ended_sound here =
        sound_fats w sound (outcome_of w.fats t x.action).after (length-outcome_of w.fats t x.action) (object-outcome_of w.fats t x.action)
        (λ m i n thin owned. other-outcome_of w.fats t x.action m (unnamed m) owned)
        (IsSound-outcome_of w.fats t x.action sound.fats (may here) bound)
        (count-outcome_of w.fats t x.action sound.fats (may here) other)
        (λ u. attached-outcome_of w.fats t u x.action sound.fats (may here) other)
        (λ u. out_alike u (cases_eq u.0 t.0))
      where
        out_alike : (u : ThreadId) → (u.0 ≡ t.0) ⊎ (u.0 ≡ t.0 → ⊥) → (post_of (outcome_of w.fats t x.action).after u ≡ Some Out) ↔ (post_of w.fats u ≡ Some Out)
        out_alike u (inl same) = rw (same_thread t u same) out
        out_alike u (inr ne) = out-outcome_of w.fats t u x.action sound.fats (may here) (λ e. ne (ap (λ (v : ThreadId). v.0) e))

    -- and where it may not.
    wait_end_sound : (o : Option ℕ) → berth_of w.berths t ≡ o → IsSound (after_wait_end x w t o).after
    wait_end_sound None e = sound
    wait_end_sound (Some k) e = by_answer (outcome_of w.fats t x.action).answer
      where
        by_answer : (r : Result Done ActFault) → IsSound (after_wait_end_as x w t r (outcome_of w.fats t x.action).after).after
        by_answer (Ok d) = ended_sound (sound.attached t (rw e refl))
        by_answer (Err f) = sound

  -- Each of the two steps keeps the world sound, and is a run.
  pub expired_right : Right w (after_wait_end time_over w t (berth_of w.berths t))
  expired_right = (
    wait_end_sound time_over (λ e. cc) (λ m e. cc) tt (λ here. here) (expire_outcome_out w.fats t (post_of w.fats t) refl) (berth_of w.berths t) refl,
    expire_run w sound t,
  )

  pub woken_right : Right w (after_wait_end wake_up w t (berth_of w.berths t))
  woken_right = (
    wait_end_sound wake_up (λ e. cc) (λ m e. cc) tt (λ here. here) (spurious_outcome_out w.fats t (post_of w.fats t) refl) (berth_of w.berths t) refl,
    wake_run w sound t,
  )

module _ (w : WorldState) (sound : IsSound w) where
  -- the world stays sound when the moment is told
  pub tick_sound : (now : ℕ) → IsSound (record w { fats = with_moment w.fats now })
  tick_sound now =
      sound_fats w sound (with_moment w.fats now) refl (λ m. refl) (λ m i n thin owned. refl) (IsSound-moment w.fats now sound.fats) refl
      (λ u. ((λ h. h), (λ h. h))) (λ u. ((λ h. h), (λ h. h)))

  -- The step keeps the world sound, and is a run.
  pub ticked_right : (now : ℕ) → Right w (after_tick w now)
  ticked_right now = (
    cond_both (nat_lt now w.fats.moment) (refuse w fault.Backwards) (accept (record w { fats = with_moment w.fats now }) (one_move Label (move.Time now))) (λ (x : Stepped). IsSound x.after)
        (λ _. sound) (λ _. tick_sound now),
    tick_run w now,
  )
