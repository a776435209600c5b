-- Who has a berth is a thread of the program, and where nobody has one nobody stands in a call.
use Rattle.std.proofs.Common.{◌≡◌, ◌∙◌, ◌⊎◌, inl, inr, sym, ap, refl, ℕ, ◌<◌, ◌≤◌, Bool, true, false, if◌then◌else◌, nat_lt, Option, Some, None, Result, Ok, Err}
use native.Mathlib.Omega.{arith}
use Rattle.std.specs.Prelude.{slice_index_or, slice_set, IsSome}
use Rattle.std.proofs.lemmas.Bool.{cases_eq}
use Rattle.std.proofs.lemmas.List.{get_or-set_other}
use Rattle.std.specs.Option.{unwrap_or}
use Rattle.lock_word.specs.declared.ThreadId.{ThreadId}
use Rattle.fat_monitor.specs.Acting.{outcome_of}
use Rattle.fat_monitor.specs.FatState.{FatState, post_of, with_moment}
use Rattle.fat_monitor.specs.declared.actions.ActFault.{ActFault}
use Rattle.fat_monitor.specs.declared.actions.Done.{Done}
use Rattle.fat_monitor.specs.declared.actions.Post.{Post}
use Rattle.fat_monitor.specs.declared.actions.Reply.TheVariants as reply
use Rattle.fat_monitor.specs.declared.actions.Cause.TheVariants.{StillOwner}
use Rattle.fat_monitor.specs.FatState.{owns_one, without_thread}
use Rattle.fast_path.specs.Calls.{subject_of}
use Rattle.fast_path.specs.declared.calls.Call.{Call}
use Rattle.thread_index.specs.Indices.{berth_of}
use Rattle.thread_index.proofs.Berths.{berth_given_other, berth_same}
use Rattle.step_core.specs.Did.{one_move}
use Rattle.step_core.specs.Go.{AfterGo, after_stage, with_go}
use Rattle.step_core.specs.Sound.{IsSound}
use Rattle.step_core.specs.Step.{WaitEnd, accept, after_look, after_tick, after_wait_end, after_wait_end_as, first_place, refuse, step_of, time_over, wake_up, world_ended}
use Rattle.step_core.specs.World.{WorldState, place_at}
use Rattle.step_core.specs.declared.machine.Move.TheVariants as move
use Rattle.step_core.specs.declared.places.Place.{Place}
use Rattle.step_core.specs.declared.places.Place.TheVariants.{Idle}
use Rattle.step_core.specs.declared.steps.Atomic.TheVariants as atomic
use Rattle.step_core.specs.declared.steps.Fault.TheVariants as fault
use Rattle.step_core.specs.declared.steps.Step.{Step}
use Rattle.step_core.specs.declared.steps.Step.TheVariants as step
use Rattle.step_core.proofs.Facts.Cases.{begin_cases, collected_as, ended_as, go_cases}
use Rattle.explore.proofs.Busy.{idle_set}
use Rattle.explore_runs.proofs.Renumbering.{HasOnly, IsNoAttach}

-- at this berth nobody stands in a call, or a thread has it
abbrev IsTaken : WorldState → ℕ → Type 0
IsTaken w k = (place_at w k ≡ Idle) ⊎ ((t : ThreadId) × (berth_of w.berths t ≡ Some k))

-- only threads below a number have berths, and only who has one stands in a call
pub record IsManned (n : ℕ) (w : WorldState) : Type 0 where
  pub ours : (t : ThreadId) (k : ℕ) → berth_of w.berths t ≡ Some k → t.0 < n
  pub taken : (k : ℕ) → IsTaken w k

-- so no other is there
pub only_ours : (n : ℕ) (w : WorldState) → IsSound w → IsManned n w → HasOnly n w
only_ours n w sound manned = λ u le. by u le (post_of w.fats u) refl
  where
    berthed : (u : ThreadId) → n ≤ u.0 → (b : Option ℕ) → berth_of w.berths u ≡ b → IsSome b → ⊥
    berthed u le None e has = cc
    berthed u le (Some k) e has = let lt = manned.ours u k e in omega (arith, lt, le)

    by : (u : ThreadId) → n ≤ u.0 → (o : Option Post) → post_of w.fats u ≡ o → post_of w.fats u ≡ None
    by u le None e = e
    by u le (Some p) e = absurd (berthed u le (berth_of w.berths u) refl (sound.live u (rw e refl)))

module _ (n : ℕ) (w : WorldState) (sound : IsSound w) (manned : IsManned n w) where
  -- thread t, at berth k, stands elsewhere
  moved : (t : ThreadId) (k : ℕ) (v : WorldState) (q : Place) → berth_of w.berths t ≡ Some k → v.berths ≡ w.berths → v.places ≡ slice_set w.places k q → IsManned n v
  moved t k v q at same places = record {
    ours = λ u j e. manned.ours u j (ap (λ bs. berth_of bs u) (sym same) ∙ e);
    taken = λ j. by j (cases_eq j k);
  }
    where
      by : (j : ℕ) → (j ≡ k) ⊎ (j ≡ k → ⊥) → IsTaken v j
      by j (inl here) = inr (t, ap (λ bs. berth_of bs t) same ∙ at ∙ ap Some (sym here))
      by j (inr other) = stays (manned.taken j)
        where
          stays : IsTaken w j → IsTaken v j
          stays (inl idle) = inl (ap (λ ps. slice_index_or ps j Idle) places ∙ get_or-set_other w.places k j q Idle other ∙ idle)
          stays (inr (u, e)) = inr (u, ap (λ bs. berth_of bs u) same ∙ e)

  -- thread t, at berth k, has ended
  ended : (t : ThreadId) (k : ℕ) (f : FatState) → berth_of w.berths t ≡ Some k → IsManned n (world_ended w k f reply.Ended)
  ended t k f at = record {
    ours = λ u j e. ours u j e (cases_eq u.0 t.0);
    taken = λ j. by j (cases_eq j k);
  }
    where
      ours : (u : ThreadId) (j : ℕ) → berth_of (slice_set w.berths k None) u ≡ Some j → (u.0 ≡ t.0) ⊎ (u.0 ≡ t.0 → ⊥) → u.0 < n
      ours u j e (inl same) = let lt = manned.ours t k at in omega (arith, lt, same)
      ours u j e (inr other) = manned.ours u j (sym (berth_given_other w.berths t u k at other) ∙ e)

      by : (j : ℕ) → (j ≡ k) ⊎ (j ≡ k → ⊥) → IsTaken (world_ended w k f reply.Ended) j
      by j (inl here) = inl (ap (λ i. slice_index_or (slice_set w.places k Idle) i Idle) here ∙ idle_set w.places k)
      by j (inr other) = stays (manned.taken j)
        where
          another : (u : ThreadId) → berth_of w.berths u ≡ Some j → u.0 ≡ t.0 → ⊥
          another u e same = other (ap (λ b. unwrap_or b 0) (sym e ∙ berth_same w.berths t u same ∙ at))

          stays : IsTaken w j → IsTaken (world_ended w k f reply.Ended) j
          stays (inl idle) = inl (get_or-set_other w.places k j Idle Idle other ∙ idle)
          stays (inr (u, e)) = inr (u, berth_given_other w.berths t u k at (another u e) ∙ e)

  begun : (t : ThreadId) (c : Call) → IsManned n (step_of true w (step.Begin t c)).after
  begun t c =
      begin_cases w t c (λ o. IsManned n o.after) (λ e. manned) (λ k o at names le. manned) (λ k at there busy. manned)
      (λ k at there idle. moved t k (record w { places = slice_set w.places k (first_place (subject_of c)) }) (first_place (subject_of c)) at refl refl)

  went : (t : ThreadId) (k : ℕ) (a : AfterGo) → berth_of w.berths t ≡ Some k → IsManned n (with_go w k a)
  went t k a at = moved t k (with_go w k a) a.place at refl refl

  gone : (t : ThreadId) → IsManned n (step_of true w (step.Go t)).after
  gone t =
      go_cases w sound t (λ o. IsManned n o.after) (λ e. manned) (λ k at idle. manned) (λ k at out room s here fits. went t k (after_stage room w k t s) at)
      (λ k at out m here lt. went t k (after_look w k t m) at) (λ k at out m here le. over t k at (owns_one w.fats.monitors t)) (λ k at here stands. manned)
      (λ k at r here granted. moved t k (collected_as w k t r).after Idle at refl refl) true
    where
      over : (t : ThreadId) (k : ℕ) → berth_of w.berths t ≡ Some k → (b : Bool) → IsManned n (ended_as w k t b).after
      over t k at true = moved t k (world_ended w k w.fats (reply.Refused StillOwner)) Idle at refl refl
      over t k at false = ended t k (without_thread w.fats t) at

  fats_alone : (f : FatState) → IsManned n (record w { fats = f })
  fats_alone f = record { ours = manned.ours; taken = manned.taken }

  waited : (x : WaitEnd) (t : ThreadId) (b : Option ℕ) → IsManned n (after_wait_end x w t b).after
  waited x t None = manned
  waited x t (Some k) = by (outcome_of w.fats t x.action).answer (outcome_of w.fats t x.action).after
    where
      by : (a : Result Done ActFault) (f : FatState) → IsManned n (after_wait_end_as x w t a f).after
      by (Ok d) f = fats_alone f
      by (Err e) f = manned

  ticked : (now : ℕ) → IsManned n (after_tick w now).after
  ticked now = by (nat_lt now w.fats.moment)
    where
      by : (b : Bool) → IsManned n (if b then refuse w fault.Backwards else accept (record w { fats = with_moment w.fats now }) (one_move atomic.Label (move.Time now))).after
      by true = manned
      by false = fats_alone (with_moment w.fats now)

-- any step but an attach leaves it so
pub manned_next : (n : ℕ) (w : WorldState) (x : Step) → IsSound w → IsManned n w → IsNoAttach x → IsManned n (step_of true w x).after
manned_next n w (step.Attach t) sound manned attach = absurd attach
manned_next n w (step.Begin t c) sound manned attach = begun n w sound manned t c
manned_next n w (step.Go t) sound manned attach = gone n w sound manned t
manned_next n w (step.Expire t) sound manned attach = waited n w sound manned time_over t (berth_of w.berths t)
manned_next n w (step.Spurious t) sound manned attach = waited n w sound manned wake_up t (berth_of w.berths t)
manned_next n w (step.Tick now) sound manned attach = ticked n w sound manned now
