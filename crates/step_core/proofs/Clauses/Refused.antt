-- A step is refused with the first of its faults whose cause holds, and only then; and a refused step changes nothing.
use Rattle.std.specs.Option.{unwrap_or}
use Rattle.wait_lines.specs.Lines.{Key, key}
use Rattle.fat_monitor.specs.declared.actions.Post.{Post}
use Rattle.fat_monitor.specs.declared.actions.Post.TheVariants.{Out, Entering, Waiting, Back, Granted}
use Rattle.fat_monitor.specs.FatState.{FatState, monitor_at, post_of, post_at, flag_at, with_moment, line_key_of, owns_one}
use Rattle.fat_monitor.specs.Acting.{Outcome as FatOutcome, answers, after_removal, granted_by_removal, not_due, expire_outcome, spurious_outcome}
use Rattle.fat_monitor.specs.declared.actions.Why.TheVariants.{Elapsed}
use Rattle.fat_monitor.specs.declared.actions.Answer.TheVariants.{Quiet}
use Rattle.step_core.specs.Machine.{Thread, Exists}
use Rattle.step_core.specs.World.{WorldState, place_at}
use Rattle.step_core.specs.Shown.{shown, doing_of, act_of}
use Rattle.step_core.specs.Sound.{IsSound}
use Rattle.step_core.specs.Did.{one_move}
use Rattle.step_core.specs.Step.{AfterStep, after_attach, after_begin, after_begin_at, refuse, after_go, step_of, accept, time_over, wake_up, after_wait_end, after_wait_end_as, after_tick}
use Rattle.step_core.specs.Refused.{IsLive, IsNotLive, IsBusy, IsIdle, IsParked, IsRefused, IsAcceptable}
use Rattle.lock_word.specs.declared.ObjectId.{ObjectId}
use Rattle.std.specs.Prelude.{zero, suc, ◌≡◌, ◌⊎◌, ℕ, ◌+◌, ◌<◌, ◌≤◌, Bool, true, false, nat_lt, List, [], ◌∷◌, length, Option, Some, None, IsSome, is_some, is_none, MatchResult, OnErr}
use Rattle.std.specs.List.{position_from}
use Rattle.std.proofs.Common.{refl, arith, sym, ◌∙◌, ap, inl, inr}
use Rattle.std.proofs.lemmas.Bool.{cond_both, ltb-true, ltb-false}
use Rattle.std.proofs.lemmas.Option.{same_Some}
use Rattle.lock_word.specs.declared.ThreadId.{ThreadId}
use Rattle.thread_index.specs.Indices.{berth_of, free_berth, holder_at}
use Rattle.thread_index.proofs.Berths.{free_found}
use Rattle.fast_path.specs.declared.calls.Call.{Call}
use Rattle.step_core.specs.declared.machine.Doing.{Doing}
use Rattle.step_core.specs.declared.machine.Doing.TheVariants as doing
use Rattle.step_core.specs.declared.places.Place.{Place}
use Rattle.step_core.specs.declared.places.Place.TheVariants.{Idle, InCall, Ending, AtPost}
use Rattle.step_core.specs.declared.steps.Step.{Step}
use Rattle.step_core.specs.declared.steps.Step.TheVariants as step
use Rattle.step_core.specs.declared.steps.Fault.{Fault}
use Rattle.step_core.specs.declared.steps.Atomic.TheVariants.{Label}
use Rattle.step_core.specs.declared.machine.Move.TheVariants as move
use Rattle.step_core.specs.declared.steps.Fault.TheVariants as fault
use Rattle.step_core.specs.declared.steps.Fault.TheVariants.{NoIndex, Memory, Known, NoThread, NoObject, NotCalling, Parked, NotDue, Backwards, NotWaiting}
use Rattle.step_core.proofs.Facts.PlaceFacts.{not_waiting, not_idle}
use Rattle.step_core.proofs.Facts.Cases.{ended_as, begin_cases, go_cases}
use Rattle.step_core.proofs.Facts.OneThread.{act_out, out_at}

-- what the answer of a step says, and what a refused step leaves
abbrev Judged : WorldState → Step → AfterStep → Type 0
Judged w s o = MatchResult o.answer (λ d. IsAcceptable w s) (λ f. IsRefused w s f) × OnErr o.answer (o.after ≡ w)

-- where no berth is free, each has a thread
full_by_test : (i : ℕ) (x : Option ThreadId) (xs : List (Option ThreadId)) (b : Bool) → is_none x ≡ b
    → (position_from is_none (i + 1) xs ≡ None → (k : ℕ) → k < length xs → IsSome (holder_at xs k))
    → position_from is_none i (x ∷ xs) ≡ None → (k : ℕ) → k < length (x ∷ xs) → IsSome (holder_at (x ∷ xs) k)
full_by_test i x xs true b rest e k h = let never : Some i ≡ None = rw b at e in absurd (cc)
full_by_test i None xs false b rest e zero h = absurd (cc)
full_by_test i (Some t) xs false b rest e zero h = refl
full_by_test i x xs false b rest e (suc k) h = rest (rw b at e) k (omega arith)

full_from : (i : ℕ) (berths : List (Option ThreadId)) → position_from is_none i berths ≡ None → (k : ℕ) → k < length berths → IsSome (holder_at berths k)
full_from i [] e k h = absurd (omega arith)
full_from i (x ∷ xs) e k h = full_by_test i x xs (is_none x) refl (full_from (i + 1) xs) e k h

-- a thread in a call that is out of every fat action is not idle
busy_out : (p : Place) → (p ≡ Idle → ⊥) → (p ≡ AtPost → ⊥) → doing_of p ≡ doing.Idle → ⊥
busy_out Idle busy free e = busy refl
busy_out (InCall s) busy free e = not_idle s e
busy_out (Ending n) busy free e = cc
busy_out AtPost busy free e = free refl

-- nor is one that is in a fat action
parked_acts : (f : FatState) (p : Place) (o : Option Post) → IsSome o → (o ≡ Some Out → ⊥) → act_of f (unwrap_or o Out) p ≡ doing.Idle → ⊥
parked_acts f p None some other e = absurd (cc)
parked_acts f p (Some Out) some other e = other refl
parked_acts f p (Some (Entering m)) some other e = cc
parked_acts f p (Some (Waiting m n d)) some other e = cc
parked_acts f p (Some (Back m n w)) some other e = cc
parked_acts f p (Some (Granted r)) some other e = cc

-- whether a thread is at its post
at_post_or_not : (p : Place) → (p ≡ AtPost) ⊎ (p ≡ AtPost → ⊥)
at_post_or_not Idle = inr (λ e. cc)
at_post_or_not (InCall s) = inr (λ e. cc)
at_post_or_not (Ending n) = inr (λ e. cc)
at_post_or_not AtPost = inl refl

-- the time of a wait
waits_until : {p o : ObjectId} {m n c d : ℕ} → doing.Waits p m (Some c) ≡ doing.Waits o n (Some d) → c ≡ d
waits_until e = cc

posted_until : {i j m n c d : ℕ} → Waiting i m (Some c) ≡ Waiting j n (Some d) → c ≡ d
posted_until e = cc

module _ (w : WorldState) (sound : IsSound w) (t : ThreadId) where
  -- what the thread at a berth is doing
  abbrev pub does : ℕ → Doing
  does k = act_of w.fats (post_at w.fats t) (place_at w k)

  -- which its place says alone, unless it is parked
  pub does_out : (k : ℕ) → berth_of w.berths t ≡ Some k → (p : Place) → place_at w k ≡ p → (p ≡ AtPost → ⊥) → does k ≡ doing_of p
  does_out k e p at free = act_out w.fats t (place_at w k) (out_at w sound k t e p at free) ∙ ap doing_of at

  -- a thread in a call is not idle
  pub does_not_idle : (k : ℕ) → berth_of w.berths t ≡ Some k → (place_at w k ≡ Idle → ⊥) → does k ≡ doing.Idle → ⊥
  does_not_idle k e busy idle = by_place (at_post_or_not (place_at w k))
    where
      by_place : (place_at w k ≡ AtPost) ⊎ (place_at w k ≡ AtPost → ⊥) → ⊥
      by_place (inl parked) = parked_acts w.fats (place_at w k) (post_of w.fats t) (sound.attached t (rw e refl)) (rw parked at (sound.posted t k e)) idle
      by_place (inr free) = busy_out (place_at w k) busy free (sym (does_out k e (place_at w k) refl free) ∙ idle)

  live : (k : ℕ) → berth_of w.berths t ≡ Some k → IsLive w t
  live k e = rw e refl

  not_live : berth_of w.berths t ≡ None → IsNotLive w t
  not_live e = rw e refl

  -- the two exclude each other
  apart : berth_of w.berths t ≡ None → IsLive w t → ⊥
  apart e h = let never : is_some {T = Thread} None ≡ true = rw e at h in absurd (cc)

  apart_too : (k : ℕ) → berth_of w.berths t ≡ Some k → IsNotLive w t → ⊥
  apart_too k e h = let never : ◌≡◌ {A = Option Thread} (Some (record { flag = flag_at w.fats t; act = does k })) None = rw e at h in absurd (cc)

  -- what is shown of the thread at a berth
  pub shows : (k : ℕ) → berth_of w.berths t ≡ Some k → (x : Thread) → (shown w).thread t ≡ Some x → does k ≡ x.act
  shows k e x h = ap (λ (y : Thread). y.act) (same_Some (record { flag = flag_at w.fats t; act = does k }) x (rw e at h))

  pub busy : (k : ℕ) → berth_of w.berths t ≡ Some k → (place_at w k ≡ Idle → ⊥) → IsBusy w t
  busy k e h = (record { flag = flag_at w.fats t; act = does k }, rw e refl, does_not_idle k e h)

  idle : (k : ℕ) → berth_of w.berths t ≡ Some k → place_at w k ≡ Idle → IsIdle w t
  idle k e h = (record { flag = flag_at w.fats t; act = does k }, rw e refl, does_out k e Idle h (λ i. cc))

  -- a thread whose post is in no line stands nowhere
  pub nowhere : (p : Post) → post_of w.fats t ≡ Some p → line_key_of p ≡ None → IsParked w t → ⊥
  nowhere p e none parked =
      let stood = sound.fats.standing t parked.0 parked.1 parked.2 in
      let same : p ≡ stood.0 = same_Some p stood.0 (sym e ∙ stood.1) in
      let never : None ≡ Some (key parked.0 parked.1) = sym none ∙ ap line_key_of same ∙ stood.2 in never_none (key parked.0 parked.1) never
    where
      never_none : (x : Key) → None ≡ Some x → ⊥
      never_none x h = cc

  attaches : (room : Bool) (o f : Option ℕ) → berth_of w.berths t ≡ o → free_berth w.berths ≡ f → Judged w (step.Attach t) (after_attach room w t o f)
  attaches room (Some k) f e free = (live k e, refl)
  attaches room None None e free = ((not_live e, full_from 0 w.berths free), refl)
  attaches true None (Some k) e free = (accepted_only, tt)
    where
      accepted_only : (f : Fault) → IsRefused w (step.Attach t) f → f ≡ Memory
      accepted_only Known h = absurd (apart e h)
      accepted_only NoIndex h =
          let there = free_found w.berths k free in
          let never : is_some {T = ThreadId} None ≡ true = rw there.1 at (h.1 k there.0) in absurd (cc)
      accepted_only Memory h = refl
      accepted_only NoThread h = absurd h
      accepted_only NoObject h = absurd h
      accepted_only fault.InCall h = absurd h
      accepted_only NotCalling h = absurd h
      accepted_only Parked h = absurd h
      accepted_only NotDue h = absurd h
      accepted_only Backwards h = absurd h
      accepted_only NotWaiting h = absurd h
  attaches false None (Some k) e free = let there = free_found w.berths k free in ((not_live e, (k, there.0, there.1)), refl)

  -- each Begin
  begins : (c : Call) → Judged w (step.Begin t c) (after_begin w t c (berth_of w.berths t))
  begins c = begin_cases w t c (Judged w (step.Begin t c))
      (λ none. (not_live none, refl))
      (λ k o berth names past. ((live k berth, (o, names, past)), refl))
      (λ k berth there in_call. ((busy k berth in_call, there), refl))
      begins_call
    where
      begins_call : (k : ℕ) → berth_of w.berths t ≡ Some k → Exists (length w.words) c → place_at w k ≡ Idle → Judged w (step.Begin t c) (after_begin_at w k t c Idle)
      begins_call k berth there at = (accepted_only, tt)
        where
          accepted_only : (f : Fault) → IsRefused w (step.Begin t c) f → f ≡ Memory
          accepted_only NoThread r = absurd (apart_too k berth r)
          accepted_only NoObject r =
              let past : length w.words ≤ r.1.0.0 = r.1.2 in let inside : r.1.0.0 < length w.words = rw r.1.1 at there in absurd (omega arith)
          accepted_only fault.InCall r = let x = r.0 in absurd (x.2 (sym (shows k berth x.0 x.1) ∙ does_out k berth Idle at (λ i. cc)))
          accepted_only Known r = absurd r
          accepted_only NoIndex r = absurd r
          accepted_only Memory r = refl
          accepted_only NotCalling r = absurd r
          accepted_only Parked r = absurd r
          accepted_only NotDue r = absurd r
          accepted_only Backwards r = absurd r
          accepted_only NotWaiting r = absurd r

  -- a Go of a thread that is in a call and stands nowhere is accepted
  goes : (k : ℕ) → berth_of w.berths t ≡ Some k → (place_at w k ≡ Idle → ⊥) → (IsParked w t → ⊥) → (f : Fault) → IsRefused w (step.Go t) f → f ≡ Memory
  goes k e h free NoThread r = absurd (apart_too k e r)
  goes k e h free NotCalling r = absurd (does_not_idle k e h (shows k e r.0 r.1 ∙ r.2))
  goes k e h free Parked r = absurd (free r.1)
  goes k e h free Known r = absurd r
  goes k e h free NoIndex r = absurd r
  goes k e h free Memory r = refl
  goes k e h free NoObject r = absurd r
  goes k e h free fault.InCall r = absurd r
  goes k e h free NotDue r = absurd r
  goes k e h free Backwards r = absurd r
  goes k e h free NotWaiting r = absurd r

  -- and so is one at any place but these two
  goes_at : (k : ℕ) → berth_of w.berths t ≡ Some k → (p : Place) → place_at w k ≡ p → (p ≡ Idle → ⊥) → (p ≡ AtPost → ⊥) → IsAcceptable w (step.Go t)
  goes_at k e p at busy free = goes k e (λ i. busy (sym at ∙ i)) (nowhere Out (out_at w sound k t e p at free) refl)

  -- each Go
  wents : (room : Bool) → Judged w (step.Go t) (after_go room w t (berth_of w.berths t))
  wents = go_cases w sound t (Judged w (step.Go t))
      (λ none. (not_live none, refl))
      (λ k berth at. (idle k berth at, refl))
      (λ k berth out room s at fit. (goes_at k berth (InCall s) at (λ i. cc) (λ i. cc), tt))
      (λ k berth out n at more. (goes_at k berth (Ending n) at (λ i. cc) (λ i. cc), tt))
      (λ k berth out n at all. ends k (goes_at k berth (Ending n) at (λ i. cc) (λ i. cc)) (owns_one w.fats.monitors t))
      (λ k berth at stands. ((live k berth, stands), refl))
      (λ k berth r at granted. (goes k berth (λ i. let x = sym at ∙ i in cc) (nowhere (Granted r) granted refl), tt))
    where
      ends : (k : ℕ) → IsAcceptable w (step.Go t) → (b : Bool) → Judged w (step.Go t) (ended_as w k t b)
      ends k may true = (may, tt)
      ends k may false = (may, tt)

  -- a thread with another post than this one waits for no time that is over
  not_due_at : (k : ℕ) → berth_of w.berths t ≡ Some k → (p : Post) → post_at w.fats t ≡ p
      → ((m n d : ℕ) → p ≡ Waiting m n (Some d) → d ≤ w.fats.moment → ⊥) → Judged w (step.Expire t) (refuse w NotDue)
  not_due_at k e p is never = ((live k e, λ due. by_post p (place_at w k) never (ap (λ (x : Post). act_of w.fats x (place_at w k)) (sym is) ∙ shows k e _ due.4) due.5), refl)
    where
      by_post : (p : Post) (q : Place) {o : ObjectId} {n d : ℕ} → ((m n d : ℕ) → p ≡ Waiting m n (Some d) → d ≤ w.fats.moment → ⊥)
          → act_of w.fats p q ≡ doing.Waits o n (Some d) → d ≤ w.fats.moment → ⊥
      by_post Out q never same late = not_waiting q same
      by_post (Entering m) q never same late = absurd (cc)
      by_post (Waiting m x None) q never same late = absurd (cc)
      by_post (Waiting m x (Some y)) q never same late = never m x y refl (let one = waits_until same in omega arith)
      by_post (Back m x y) q never same late = absurd (cc)
      by_post (Granted r) q never same late = absurd (cc)

  -- a wait expires where it is due, and only there
  expires_at : (k : ℕ) → berth_of w.berths t ≡ Some k → (p : Post) → post_at w.fats t ≡ p
      → Judged w (step.Expire t) (after_wait_end_as time_over w t (expire_outcome w.fats t p).answer (expire_outcome w.fats t p).after)
  expires_at k e Out is = not_due_at k e Out is (λ m n d same late. cc)
  expires_at k e (Entering m) is = not_due_at k e (Entering m) is (λ j n d same late. cc)
  expires_at k e (Waiting m n None) is = not_due_at k e (Waiting m n None) is (λ j x d same late. cc)
  expires_at k e (Waiting m n (Some d)) is =
      cond_both (nat_lt w.fats.moment d) (not_due w.fats) (answers (after_removal w.fats t Elapsed (Waiting m n (Some d))) Quiet (granted_by_removal w.fats t (Waiting m n (Some d))) None)
      (λ (x : FatOutcome). Judged w (step.Expire t) (after_wait_end_as time_over w t x.answer x.after))
      (λ early. not_due_at k e (Waiting m n (Some d)) is (λ j x y same late. let one = posted_until same in let before = ltb-true w.fats.moment d early in omega arith))
      (λ due. (accepted_only (ltb-false w.fats.moment d due), tt))
    where
      accepted_only : d ≤ w.fats.moment → (f : Fault) → IsRefused w (step.Expire t) f → f ≡ Memory
      accepted_only due NoThread r = absurd (apart_too k e r)
      accepted_only due NotDue r = absurd (r.1 (
        flag_at w.fats t,
        (monitor_at w.fats m).object,
        n,
        d,
        rw e (ap (λ (x : Post). Some (record { flag = flag_at w.fats t; act = act_of w.fats x (place_at w k) })) is),
        due,
      ))
      accepted_only due Known r = absurd r
      accepted_only due NoIndex r = absurd r
      accepted_only due Memory r = refl
      accepted_only due NoObject r = absurd r
      accepted_only due fault.InCall r = absurd r
      accepted_only due NotCalling r = absurd r
      accepted_only due Parked r = absurd r
      accepted_only due Backwards r = absurd r
      accepted_only due NotWaiting r = absurd r
  expires_at k e (Back m n y) is = not_due_at k e (Back m n y) is (λ j x d same late. cc)
  expires_at k e (Granted r) is = not_due_at k e (Granted r) is (λ j n d same late. cc)

  expires : (o : Option ℕ) → berth_of w.berths t ≡ o → Judged w (step.Expire t) (after_wait_end time_over w t o)
  expires None e = (not_live e, refl)
  expires (Some k) e = expires_at k e (post_at w.fats t) refl

  -- a thread with another post than this one does not wait
  not_waiting_at : (k : ℕ) → berth_of w.berths t ≡ Some k → (p : Post) → post_at w.fats t ≡ p
      → ((m n : ℕ) (d : Option ℕ) → p ≡ Waiting m n d → ⊥) → Judged w (step.Spurious t) (refuse w NotWaiting)
  not_waiting_at k e p is never = ((live k e, λ waits. by_post p (place_at w k) never (ap (λ (x : Post). act_of w.fats x (place_at w k)) (sym is) ∙ shows k e _ waits.4)), refl)
    where
      by_post : (p : Post) (q : Place) {o : ObjectId} {n : ℕ} {d : Option ℕ} → ((m n : ℕ) (d : Option ℕ) → p ≡ Waiting m n d → ⊥) → act_of w.fats p q ≡ doing.Waits o n d → ⊥
      by_post Out q never same = not_waiting q same
      by_post (Entering m) q never same = absurd (cc)
      by_post (Waiting m x y) q never same = never m x y refl
      by_post (Back m x y) q never same = absurd (cc)
      by_post (Granted r) q never same = absurd (cc)

  -- a wake-up is for a thread that waits, and only for one
  wakes_at : (k : ℕ) → berth_of w.berths t ≡ Some k → (p : Post) → post_at w.fats t ≡ p
      → Judged w (step.Spurious t) (after_wait_end_as wake_up w t (spurious_outcome w.fats t p).answer (spurious_outcome w.fats t p).after)
  wakes_at k e Out is = not_waiting_at k e Out is (λ m n d same. cc)
  wakes_at k e (Entering m) is = not_waiting_at k e (Entering m) is (λ j n d same. cc)
  wakes_at k e (Waiting m n d) is = (accepted_only, tt)
    where
      accepted_only : (f : Fault) → IsRefused w (step.Spurious t) f → f ≡ Memory
      accepted_only NoThread r = absurd (apart_too k e r)
      accepted_only NotWaiting r = absurd (r.1 (
        flag_at w.fats t,
        (monitor_at w.fats m).object,
        n,
        d,
        rw e (ap (λ (x : Post). Some (record { flag = flag_at w.fats t; act = act_of w.fats x (place_at w k) })) is),
      ))
      accepted_only Known r = absurd r
      accepted_only NoIndex r = absurd r
      accepted_only Memory r = refl
      accepted_only NoObject r = absurd r
      accepted_only fault.InCall r = absurd r
      accepted_only NotCalling r = absurd r
      accepted_only Parked r = absurd r
      accepted_only NotDue r = absurd r
      accepted_only Backwards r = absurd r
  wakes_at k e (Back m n y) is = not_waiting_at k e (Back m n y) is (λ j x d same. cc)
  wakes_at k e (Granted r) is = not_waiting_at k e (Granted r) is (λ j n d same. cc)

  wakes : (o : Option ℕ) → berth_of w.berths t ≡ o → Judged w (step.Spurious t) (after_wait_end wake_up w t o)
  wakes None e = (not_live e, refl)
  wakes (Some k) e = wakes_at k e (post_at w.fats t) refl

-- the moment is told where it does not fall
ticks : (w : WorldState) (now : ℕ) → Judged w (step.Tick now) (after_tick w now)
ticks w now =
    cond_both (nat_lt now w.fats.moment) (refuse w Backwards) (accept (record w { fats = with_moment w.fats now }) (one_move Label (move.Time now))) (Judged w (step.Tick now))
    (λ back. (ltb-true now w.fats.moment back, refl)) (λ on. (accepted_only (ltb-false now w.fats.moment on), tt))
  where
    accepted_only : w.fats.moment ≤ now → (f : Fault) → IsRefused w (step.Tick now) f → f ≡ Memory
    accepted_only on Backwards r = absurd (let h : now < w.fats.moment = r in omega arith)
    accepted_only on Known r = absurd r
    accepted_only on NoIndex r = absurd r
    accepted_only on Memory r = refl
    accepted_only on NoThread r = absurd r
    accepted_only on NoObject r = absurd r
    accepted_only on fault.InCall r = absurd r
    accepted_only on NotCalling r = absurd r
    accepted_only on Parked r = absurd r
    accepted_only on NotDue r = absurd r
    accepted_only on NotWaiting r = absurd r

-- Each answer is the right one, and a refused step changes nothing.
pub step_judged : (w : WorldState) → IsSound w → (room : Bool) (s : Step) → MatchResult (step_of room w s).answer (λ d. IsAcceptable w s) (λ f. IsRefused w s f) × OnErr (step_of room w s).answer ((step_of room w s).after ≡ w)
step_judged w sound room (step.Attach t) = attaches w sound t room (berth_of w.berths t) (free_berth w.berths) refl refl
step_judged w sound room (step.Begin t c) = begins w sound t c
step_judged w sound room (step.Go t) = wents w sound t room
step_judged w sound room (step.Expire t) = expires w sound t (berth_of w.berths t) refl
step_judged w sound room (step.Spurious t) = wakes w sound t (berth_of w.berths t) refl
step_judged w sound room (step.Tick now) = ticks w now
