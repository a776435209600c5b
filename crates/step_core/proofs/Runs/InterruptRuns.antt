-- Each action about interrupts is a run of the machine on the shown states.
use Rattle.std.specs.Prelude.{◌≡◌, ◌≢◌, ◌⊎◌, ℕ, ◌+◌, ◌-◌, ◌<◌, Bool, true, false, length, [], ◌∷◌, Option, Some, None, IsSome, is_some}
use Rattle.std.proofs.Common.{arith, refl, ap, sym, ◌∙◌, subst, inl, inr}
use Rattle.std.proofs.lemmas.Bool.{cases_eq, eq-eqb, ne_eqb}
use Rattle.lock_word.specs.declared.ThreadId.{ThreadId}
use Rattle.lock_word.specs.declared.ObjectId.{ObjectId}
use Rattle.lock_word.specs.declared.Lock.TheVariants.{Thin, Fat}
use Rattle.thread_index.specs.Indices.{berth_of, holder_at}
use Rattle.wait_lines.specs.declared.Role.TheVariants.{Waiting as WaitSet}
use Rattle.fat_monitor.specs.declared.monitors.Monitor as fat
use Rattle.fat_monitor.specs.declared.actions.Cause.TheVariants as cause
use Rattle.fat_monitor.specs.declared.actions.Reply.TheVariants as reply
use Rattle.fat_monitor.specs.declared.actions.Answer.TheVariants as answer
use Rattle.fat_monitor.specs.declared.actions.Why.TheVariants as why
use Rattle.fat_monitor.specs.declared.actions.Action.TheVariants as action
use Rattle.fat_monitor.specs.declared.actions.Post.{Post}
use Rattle.fat_monitor.specs.declared.actions.Post.TheVariants.{Out, Entering, Waiting, Back, Granted}
use Rattle.fat_monitor.specs.FatState.{FatState, monitor_at, IsAttached, post_of, post_at, flag_at, with_flag}
use Rattle.fat_monitor.specs.Acting.{outcome_of, answers, after_grant, after_sending_back, replies}
use Rattle.fat_monitor.proofs.Effects.{post-with_post_same, post-with_post_other}
use Rattle.fat_monitor.proofs.Flags.{flag-with_flag_same, flag-with_flag_other}
use Rattle.fast_path.specs.declared.calls.InterruptCall.{InterruptCall}
use Rattle.fast_path.specs.declared.calls.InterruptCall.TheVariants as about
use Rattle.fast_path.specs.Calls.{call_about}
use Rattle.fast_path.specs.declared.calls.Call.TheVariants as call
use Rattle.step_core.specs.declared.machine.Doing.TheVariants as doing
use Rattle.step_core.specs.declared.places.Place.{Place}
use Rattle.step_core.specs.declared.places.Place.TheVariants.{Idle, InCall}
use Rattle.step_core.specs.declared.places.Stage.TheVariants.{Bound, Direct}
use Rattle.step_core.specs.declared.machine.Move.TheVariants as move
use Rattle.step_core.specs.declared.steps.Atomic.TheVariants as atomic
use Rattle.step_core.specs.declared.steps.Did.{Did}
use Rattle.step_core.specs.Machine.{State, Thread, Run, held, with_thread, with_monitor, Is, now_is, Unowned, after_interrupt, with_interrupt}
use Rattle.step_core.specs.World.{WorldState, place_at, lock_at}
use Rattle.step_core.specs.Shown.{shown, act_of, thread_of}
use Rattle.step_core.specs.Sound.{IsSound, MayShow, Fitting, IsPublished}
use Rattle.step_core.specs.Did.{move_and_return, move_grant_and_return}
use Rattle.step_core.specs.Go.{with_go, fats_changed, action_about}
use Rattle.step_core.proofs.Facts.Moves.{with_thread-with_thread, run_refused, run_interrupted, run_tested, run_asked}
use Rattle.step_core.proofs.Runs.Regaining.{run_stirred}
use Rattle.step_core.proofs.Facts.PlaceFacts.{stirred_out, who_bound}
use Rattle.step_core.proofs.Facts.ShownStates.{does, thread_in, ActsAlike, acts_alike}
use Rattle.step_core.proofs.Facts.OneFatAction.{one_thread, same_post, post_is, own_thread, kept_thread, by_berth, shown_turned}
use Rattle.step_core.proofs.Facts.OneThread.{stands_at, is_at, act_out}
use Rattle.step_core.proofs.Facts.Grants.{monitors-after_grant, post-after_grant_same, post-after_grant_other, flag-after_grant_same, flag-after_grant_other, moment-after_grant}
use Rattle.step_core.proofs.Runs.ActionShows.{act_same, monitors_kept, Goal, by_outcome, shown_flagged, keeps_all, shown_handed_over}

-- A monitor that nobody owns is shown by its object: whoever is to store one owns it.
pub unowned_shows : (w : WorldState) → IsSound w → (m : ℕ) → m < length w.fats.monitors → (monitor_at w.fats m).owner ≡ None
    → lock_at w (monitor_at w.fats m).object.0 ≡ Fat m
unowned_shows w sound m inside free = by_published (sound.published m inside)
  where
    by_published : IsPublished w m → lock_at w (monitor_at w.fats m).object.0 ≡ Fat m
    by_published (inl shows) = shows
    by_published (inr (j, there, bound)) =
        let b = who_bound (place_at w j) m bound in
        let fit : Fitting w j (InCall (Bound b.0 b.1 m)) = subst (λ (x : Place). Fitting w j x) b.2 (sound.places j there) in
        let none : holder_at w.berths j ≡ None = sym (ap (λ (x : fat.Monitor). x.owner) fit.2.2) ∙ free in
        let stands : MayShow w b.0.object.0 (Thin (j + 1) fit.2.0) = rw fit.2.1 at (stands_at w sound b.0.object.0) in
        let here : j + 1 - 1 ≡ j = omega arith in
        let never : is_some {T = ThreadId} None ≡ true = rw (here, none) at stands.3 in absurd (cc)

module _ (w : WorldState) (sound : IsSound w) (k : ℕ) (t : ThreadId) (berth : berth_of w.berths t ≡ Some k) (out : post_of w.fats t ≡ Some Out) where
  -- t asks whether it is interrupted
  test_run : (flag : Bool) → flag_at w.fats t ≡ flag → Is (shown w) t flag (doing.Wants call.Interrupted) → Goal w k t call.Interrupted action.Interrupted
  test_run true e is =
      by_outcome w k t call.Interrupted action.Interrupted (replies (with_flag w.fats t false) reply.Yes) (rw e refl)
      (subst (λ (s : State). Run (shown w) (move.TestClear t ∷ move.Return t reply.Yes ∷ []) s)
      (sym (shown_flagged w sound k t berth out false (move_and_return (atomic.Acted action.Interrupted (answer.Reply reply.Yes)) (move.TestClear t) t reply.Yes)))
      (run_tested (shown w) t true is))
  test_run false e is =
      by_outcome w k t call.Interrupted action.Interrupted (replies (with_flag w.fats t false) reply.No) (rw e refl)
      (subst (λ (s : State). Run (shown w) (move.TestClear t ∷ move.Return t reply.No ∷ []) s)
      (sym (shown_flagged w sound k t berth out false (move_and_return (atomic.Acted action.Interrupted (answer.Reply reply.No)) (move.TestClear t) t reply.No)))
      (run_tested (shown w) t false is))

  -- a thread that is not attached is not live, and one that is attached is
  not_live : (u : ThreadId) → post_of w.fats u ≡ None → (shown w).thread u ≡ None
  not_live u none = by_one (berth_of w.berths u) refl
    where
      by_one : (o : Option ℕ) → berth_of w.berths u ≡ o → thread_of w u o ≡ None
      by_one None e = refl
      by_one (Some j) e =
          let here : IsAttached w.fats u = sound.attached u (rw e refl) in let never : IsSome {T = Post} None = rw none at here in absurd (cc)

  live_at : (u : ThreadId) (p : Post) → post_of w.fats u ≡ Some p → (j : ℕ) × (berth_of w.berths u ≡ Some j)
  live_at u p e = by_one (berth_of w.berths u) refl (sound.live u (rw e refl))
    where
      by_one : (o : Option ℕ) → berth_of w.berths u ≡ o → IsSome o → (j : ℕ) × (berth_of w.berths u ≡ Some j)
      by_one None e h = absurd (cc)
      by_one (Some j) e h = (j, e)

  -- t asks whether u is interrupted
  ask_run : (u : ThreadId) (p : Option Post) → post_of w.fats u ≡ p → (flag : Bool) → flag_at w.fats u ≡ flag
      → Is (shown w) t (flag_at w.fats t) (doing.Wants (call.IsInterrupted u)) → Goal w k t (call.IsInterrupted u) (action.IsInterrupted u)
  ask_run u None e flag set is =
      keeps_all w sound k t berth out (call.IsInterrupted u) (action.IsInterrupted u) (reply.Refused cause.NoThread) (rw e refl)
      (run_refused (shown w) t (flag_at w.fats t) (call.IsInterrupted u) cause.NoThread is (not_live u e))
  ask_run u (Some p) e true set is =
      let j = live_at u p e in
      keeps_all w sound k t berth out (call.IsInterrupted u) (action.IsInterrupted u) reply.Yes (rw (e, set) refl)
      (run_asked (shown w) t u (flag_at w.fats t) true (thread_in w.fats u (place_at w j.0)) is (rw j.1 refl) (sym set))
  ask_run u (Some p) e false set is =
      let j = live_at u p e in
      keeps_all w sound k t berth out (call.IsInterrupted u) (action.IsInterrupted u) reply.No (rw (e, set) refl)
      (run_asked (shown w) t u (flag_at w.fats t) false (thread_in w.fats u (place_at w j.0)) is (rw j.1 refl) (sym set))

  -- t interrupts itself
  own_run : Is (shown w) t (flag_at w.fats t) (doing.Wants (call.Interrupt t)) → Goal w k t (call.Interrupt t) (action.Interrupt t)
  own_run is =
      by_outcome w k t (call.Interrupt t) (action.Interrupt t) (answers (with_flag w.fats t true) (answer.Reply reply.Done) None None) (rw out refl)
      (subst (λ (s : State). Run (shown w) (move.Interrupt t ∷ move.Return t reply.Done ∷ []) s)
      (with_thread-with_thread (shown w) t (Some (with_interrupt x)) (Some (does true doing.Idle))
      ∙ sym (shown_flagged w sound k t berth out true (move_and_return (atomic.Acted (action.Interrupt t) (answer.Reply reply.Done)) (move.Interrupt t) t reply.Done)))
      (rw (eq-eqb t.0 t.0 refl) at (run_interrupted (shown w) t t (flag_at w.fats t) x is is)))
    where
      x : Thread
      x = does (flag_at w.fats t) (doing.Wants (call.Interrupt t))

  -- what is shown where t interrupts another thread, which comes back if it waited, and no monitor changes
  module _ (u : ThreadId) (j : ℕ) (theirs : berth_of w.berths u ≡ Some j) (apart : u.0 ≡ t.0 → ⊥) where
    -- what u shows before
    abbrev them : Thread
    them = thread_in w.fats u (place_at w j)

    shown_stirred : (g : FatState) (did : Did) → g.monitors ≡ w.fats.monitors → g.moment ≡ w.fats.moment → post_of g t ≡ Some Out → flag_at g t ≡ flag_at w.fats t
        → ((q : Place) → thread_in g u q ≡ with_interrupt (thread_in w.fats u q))
        → ((v : ThreadId) → (v.0 ≡ t.0 → ⊥) → (v.0 ≡ u.0 → ⊥) → ActsAlike w.fats g v)
        → shown (with_go w k (fats_changed w g Idle did)) ≡ now_is (with_thread (shown w) u (Some (with_interrupt them))) t (flag_at w.fats t) doing.Idle
    shown_stirred g did same moment mine flag stirs others =
        shown_turned w sound k t berth g Idle did (now_is (with_thread (shown w) u (Some (with_interrupt them))) t (flag_at w.fats t) doing.Idle) refl (sym moment)
        (λ v. at_thread v (cases_eq v.0 t.0) (cases_eq v.0 u.0)) (monitors_kept w k g Idle did same)
      where
        at_thread : (v : ThreadId) → (v.0 ≡ t.0) ⊎ (v.0 ≡ t.0 → ⊥) → (v.0 ≡ u.0) ⊎ (v.0 ≡ u.0 → ⊥)
            → thread_of (with_go w k (fats_changed w g Idle did)) v (berth_of w.berths v) ≡ (now_is (with_thread (shown w) u (Some (with_interrupt them))) t (flag_at w.fats t) doing.Idle).thread v
        at_thread v (inl e) x =
            rw (eq-eqb v.0 t.0 e) (own_thread w sound k t berth g Idle did (does (flag_at w.fats t) doing.Idle) (rw flag (ap (does (flag_at w.fats t)) (act_out g t Idle mine))) v e)
        at_thread v (inr ne) (inl e) =
            rw (ne_eqb v.0 t.0 ne, eq-eqb v.0 u.0 e, one_thread v u e, theirs)
            (by_berth w sound k t berth g Idle did u apart (Some j) theirs ∙ ap (λ (x : Thread). Some x) (stirs (place_at w j)))
        at_thread v (inr ne) (inr nu) = rw (ne_eqb v.0 t.0 ne, ne_eqb v.0 u.0 nu) (kept_thread w sound k t berth g Idle did v ne (others v ne nu))

    -- the run that leads there
    stirred_run : (g : FatState) → outcome_of w.fats t (action.Interrupt u) ≡ answers g (answer.Reply reply.Done) None None
        → g.monitors ≡ w.fats.monitors → g.moment ≡ w.fats.moment → post_of g t ≡ Some Out → flag_at g t ≡ flag_at w.fats t
        → ((q : Place) → thread_in g u q ≡ with_interrupt (thread_in w.fats u q))
        → ((v : ThreadId) → (v.0 ≡ t.0 → ⊥) → (v.0 ≡ u.0 → ⊥) → ActsAlike w.fats g v)
        → Is (shown w) t (flag_at w.fats t) (doing.Wants (call.Interrupt u)) → Goal w k t (call.Interrupt u) (action.Interrupt u)
    stirred_run g e same moment mine flag stirs others is =
        by_outcome w k t (call.Interrupt u) (action.Interrupt u) (answers g (answer.Reply reply.Done) None None) e
        (subst (λ (s : State). Run (shown w) (move.Interrupt t ∷ move.Return t reply.Done ∷ []) s)
        (sym (shown_stirred g (move_and_return (atomic.Acted (action.Interrupt u) (answer.Reply reply.Done)) (move.Interrupt t) t reply.Done) same moment mine flag stirs others))
        (rw (ne_eqb t.0 u.0 (λ x. apart (sym x))) at (run_interrupted (shown w) t u (flag_at w.fats t) them is (rw theirs refl))))

    -- u does not wait: its flag is set
    flagged_run : (p : Post) → post_of w.fats u ≡ Some p → outcome_of w.fats t (action.Interrupt u) ≡ answers (with_flag w.fats u true) (answer.Reply reply.Done) None None
        → ((q : Place) → act_of w.fats p q ≡ after_interrupt (act_of w.fats p q))
        → Is (shown w) t (flag_at w.fats t) (doing.Wants (call.Interrupt u)) → Goal w k t (call.Interrupt u) (action.Interrupt u)
    flagged_run p at e stays is =
        stirred_run (with_flag w.fats u true) e refl refl out (flag-with_flag_other w.fats u t true (λ x. apart (sym (ap (λ (y : ThreadId). y.0) x))))
        (λ q. rw (flag-with_flag_same w.fats u true)
        (ap (does true) (act_same w.fats (with_flag w.fats u true) (post_at w.fats u) q refl ∙ rw (post_is w.fats u p at) (stays q))))
        (λ v ne nu. acts_alike w.fats (with_flag w.fats u true) v sound.fats (flag-with_flag_other w.fats u v true (λ x. nu (ap (λ (y : ThreadId). y.0) x))) refl (λ i l. refl))
        is

    -- u waits behind an owner
    behind_run : (m n : ℕ) (d : Option ℕ) → post_of w.fats u ≡ Some (Waiting m n d) → (owner : ThreadId) → (monitor_at w.fats m).owner ≡ Some owner
        → Is (shown w) t (flag_at w.fats t) (doing.Wants (call.Interrupt u)) → Goal w k t (call.Interrupt u) (action.Interrupt u)
    behind_run m n d at owner own is =
        stirred_run g (rw (at, own) refl) refl refl
        (post-with_post_other (with_flag w.fats u true) u t (Back m n why.Interrupted) (λ x. apart (sym (ap (λ (y : ThreadId). y.0) x))) ∙ out)
        (flag-with_flag_other w.fats u t true (λ x. apart (sym (ap (λ (y : ThreadId). y.0) x))))
        (λ q. rw (flag-with_flag_same w.fats u true, post_is g u (Back m n why.Interrupted) (post-with_post_same (with_flag w.fats u true) u (Back m n why.Interrupted)), post_is w.fats u (Waiting m n d) at) refl)
        (λ v ne nu. acts_alike w.fats g v sound.fats (flag-with_flag_other w.fats u v true (λ x. nu (ap (λ (y : ThreadId). y.0) x)))
        (same_post w.fats g v (post-with_post_other (with_flag w.fats u true) u v (Back m n why.Interrupted) (λ x. nu (ap (λ (y : ThreadId). y.0) x)))) (λ i l. refl))
        is
      where
        g : FatState
        g = after_sending_back (with_flag w.fats u true) u m (Back m n why.Interrupted) (Some owner)

    -- u waits on a monitor that nobody owns, and gets it at once
    served_run : (m n : ℕ) (d : Option ℕ) → post_of w.fats u ≡ Some (Waiting m n d) → (monitor_at w.fats m).owner ≡ None
        → Is (shown w) t (flag_at w.fats t) (doing.Wants (call.Interrupt u)) → Goal w k t (call.Interrupt u) (action.Interrupt u)
    served_run m n d at free is =
        by_outcome w k t (call.Interrupt u) (action.Interrupt u) (answers g (answer.Reply reply.Done) (Some u) None) (rw (at, free) refl)
        (rw their_post
        (subst (λ (s : State). Run (shown w) (move.Interrupt t ∷ move.Relock u ∷ move.Return t reply.Done ∷ []) s) (sym shown_then)
        (run_stirred (shown w) t u (flag_at w.fats t) (flag_at w.fats u) o n d is waits unowned (λ x. apart (sym x)))))
      where
        p : Post
        p = Back m n why.Interrupted

        g : FatState
        g = after_grant (with_flag w.fats u true) m u (Back m n why.Interrupted) WaitSet

        o : ObjectId
        o = (monitor_at w.fats m).object

        shows : lock_at w (monitor_at w.fats m).object.0 ≡ Fat m
        shows = unowned_shows w sound m (sound.fats.proper u (Waiting m n d) at).0 free

        unowned : Unowned (shown w) (monitor_at w.fats m).object
        unowned = rw shows free

        waits : Is (shown w) u (flag_at w.fats u) (doing.Waits (monitor_at w.fats m).object n d)
        waits = rw (theirs, post_is w.fats u (Waiting m n d) at) refl

        other : t ≢ u
        other x = apart (sym (ap (λ (y : ThreadId). y.0) x))

        their_post : post_at (after_grant (with_flag w.fats u true) m u (Back m n why.Interrupted) WaitSet) u ≡ Granted reply.Interrupted
        their_post = post_is g u (Granted reply.Interrupted) (post-after_grant_same (with_flag w.fats u true) m u (Back m n why.Interrupted) WaitSet)

        did : Did
        did = move_grant_and_return (atomic.Acted (action.Interrupt u) (answer.Reply reply.Done)) (move.Interrupt t) (Some (move.Relock u)) t reply.Done

        shown_then : shown (with_go w k (fats_changed w g Idle did)) ≡ with_monitor (now_is (now_is (shown w) u false (doing.Has reply.Interrupted)) t (flag_at w.fats t) doing.Idle) o (held u n)
        shown_then = shown_handed_over w sound k t berth out (call.Interrupt u) o m is shows u g Idle did (flag_at w.fats t) false doing.Idle reply.Interrupted n apart (rw theirs refl)
            (rw (flag-after_grant_other (with_flag w.fats u true) m u p WaitSet t other, flag-with_flag_other w.fats u t true other)
            (ap (does (flag_at w.fats t)) (act_out g t Idle (post-after_grant_other (with_flag w.fats u true) m u p WaitSet t other ∙ out))))
            their_post (flag-after_grant_same (with_flag w.fats u true) m u p WaitSet)
            (λ v ne nu. same_post w.fats g v (post-after_grant_other (with_flag w.fats u true) m u p WaitSet v (λ e. nu (ap (λ (y : ThreadId). y.0) e))))
            (λ v ne nu. flag-after_grant_other (with_flag w.fats u true) m u p WaitSet v (λ e. nu (ap (λ (y : ThreadId). y.0) e)) ∙ flag-with_flag_other w.fats u v true (λ e. nu (ap (λ (y : ThreadId). y.0) e)))
            (moment-after_grant (with_flag w.fats u true) m u p WaitSet)
            (monitors-after_grant (with_flag w.fats u true) m u p WaitSet)

    -- by the post of u
    other_run : (p : Post) → post_of w.fats u ≡ Some p → Is (shown w) t (flag_at w.fats t) (doing.Wants (call.Interrupt u)) → Goal w k t (call.Interrupt u) (action.Interrupt u)
    other_run Out at is = flagged_run Out at (rw at refl) (λ q. sym (stirred_out q)) is
    other_run (Entering m) at is = flagged_run (Entering m) at (rw at refl) (λ q. refl) is
    other_run (Waiting m n d) at is = by_owner (monitor_at w.fats m).owner refl
      where
        by_owner : (x : Option ThreadId) → (monitor_at w.fats m).owner ≡ x → Goal w k t (call.Interrupt u) (action.Interrupt u)
        by_owner (Some owner) own = behind_run m n d at owner own is
        by_owner None free = served_run m n d at free is
    other_run (Back m n y) at is = flagged_run (Back m n y) at (rw at refl) (λ q. refl) is
    other_run (Granted r) at is = flagged_run (Granted r) at (rw at refl) (λ q. refl) is

  -- t interrupts a thread
  interrupt_run : (u : ThreadId) (p : Option Post) → post_of w.fats u ≡ p → (u.0 ≡ t.0) ⊎ (u.0 ≡ t.0 → ⊥)
      → Is (shown w) t (flag_at w.fats t) (doing.Wants (call.Interrupt u)) → Goal w k t (call.Interrupt u) (action.Interrupt u)
  interrupt_run u None e x is =
      keeps_all w sound k t berth out (call.Interrupt u) (action.Interrupt u) (reply.Refused cause.NoThread) (rw e refl)
      (run_refused (shown w) t (flag_at w.fats t) (call.Interrupt u) cause.NoThread is (not_live u e))
  interrupt_run u (Some p) e (inl same) is =
      let one : u ≡ t = one_thread u t same in
      subst (λ (x : ThreadId). Goal w k t (call.Interrupt x) (action.Interrupt x)) (sym one)
      (own_run (subst (λ (x : ThreadId). Is (shown w) t (flag_at w.fats t) (doing.Wants (call.Interrupt x))) one is))
  interrupt_run u (Some p) e (inr apart) is = let j = live_at u p e in other_run u j.0 j.1 apart p e is

  -- A call about interrupts makes its own action.
  pub direct_run : (c : InterruptCall) → place_at w k ≡ InCall (Direct c) → Goal w k t (call_about c) (action_about c)
  direct_run (about.Interrupt u) at = interrupt_run u (post_of w.fats u) refl (cases_eq u.0 t.0) (is_at w sound k t berth (InCall (Direct (about.Interrupt u))) at out)
  direct_run about.Interrupted at = test_run (flag_at w.fats t) refl (is_at w sound k t berth (InCall (Direct about.Interrupted)) at out)
  direct_run (about.IsInterrupted u) at =
      ask_run u (post_of w.fats u) refl (flag_at w.fats u) refl (is_at w sound k t berth (InCall (Direct (about.IsInterrupted u))) at out)
