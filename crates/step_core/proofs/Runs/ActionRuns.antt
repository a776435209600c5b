-- Each fat action is a run of the machine on the shown states.
use Rattle.std.specs.Prelude.{zero, suc, ◌≡◌, ◌≢◌, ◌⊎◌, ℕ, ◌+◌, ◌-◌, ◌<◌, ◌≤◌, ℤ, Bool, true, false, ◌==◌, nat_lt, List, get_or, [], ◌∷◌, Option, Some, None}
use Rattle.std.proofs.Common.{arith, refl, ap, sym, ◌∙◌, subst, inl, inr, get_or-set_same, get_or-set_other}
use Rattle.std.proofs.lemmas.Bool.{cases_eq, cases_lt, eq-eqb, ne_eqb, lt-ltb, le-ltb, ltb-true, ltb-false}
use Rattle.lock_word.specs.declared.ThreadId.{ThreadId}
use Rattle.lock_word.specs.declared.ObjectId.{ObjectId}
use Rattle.lock_word.specs.declared.Lock.TheVariants.{Fat}
use Rattle.thread_index.specs.Indices.{berth_of}
use Rattle.wait_lines.specs.declared.Role.TheVariants.{Entry, Waiting as WaitSet}
use Rattle.fat_monitor.specs.declared.monitors.Monitor as fat
use Rattle.fat_monitor.specs.declared.actions.Cause.TheVariants as cause
use Rattle.fat_monitor.specs.declared.actions.Reply.{Reply}
use Rattle.fat_monitor.specs.declared.actions.Reply.TheVariants as reply
use Rattle.fat_monitor.specs.declared.actions.Answer.TheVariants as answer
use Rattle.fat_monitor.specs.declared.actions.Action.{Action}
use Rattle.fat_monitor.specs.declared.actions.Action.TheVariants as action
use Rattle.fat_monitor.specs.declared.actions.Post.{Post}
use Rattle.fat_monitor.specs.declared.actions.Post.TheVariants.{Out, Entering, Waiting, Granted}
use Rattle.fat_monitor.specs.FatState.{FatState, monitor_at, unbound, is_owned_by, IsFair, post_of, post_at, flag_at, first_of, with_owner, with_flag}
use Rattle.fat_monitor.specs.Acting.{outcome_of, answers, after_grant, replies, are_good, deadline, after_parking, holds_granted, reply_granted}
use Rattle.fat_monitor.proofs.Effects.{post-with_post_same, post-with_post_other}
use Rattle.fat_monitor.proofs.Flags.{settled_flag}
use Rattle.fast_path.specs.declared.calls.Call.{Call}
use Rattle.fast_path.specs.declared.calls.Call.TheVariants as call
use Rattle.step_core.specs.declared.machine.Doing.{Doing}
use Rattle.step_core.specs.declared.machine.Doing.TheVariants as doing
use Rattle.step_core.specs.declared.places.Place.TheVariants.{Idle, AtPost}
use Rattle.step_core.specs.declared.machine.Move.TheVariants as move
use Rattle.step_core.specs.declared.steps.Atomic.TheVariants as atomic
use Rattle.step_core.specs.declared.steps.Did.{Did}
use Rattle.step_core.specs.Machine.{State, Monitor, Run, Steps, free, held, with_monitor, Is, now_is, owner_only, AreGood}
use Rattle.step_core.specs.World.{WorldState, lock_at}
use Rattle.step_core.specs.Shown.{shown, act_of, thread_of}
use Rattle.step_core.specs.Sound.{IsSound}
use Rattle.step_core.specs.Did.{no_move, move_and_return, granting, move_grant_and_return, parking}
use Rattle.step_core.specs.Go.{with_go, fats_changed}
use Rattle.step_core.proofs.Facts.Moves.{run_entered, run_exited, run_illegal, run_bad, run_yes, run_no, run_refused, run_early, run_handed, run_handed_over, now_is-other}
use Rattle.step_core.proofs.Facts.ShownStates.{does, thread_in, acts_alike}
use Rattle.step_core.proofs.Facts.OneFatAction.{same_thread, one_thread, same_post, post_is, own_thread, kept_thread, shown_turned}
use Rattle.step_core.proofs.Facts.OneThread.{act_out}
use Rattle.step_core.proofs.Runs.WordRuns.{good_time, not_good}
use Rattle.step_core.proofs.Facts.Grants.{monitors-after_grant, post-after_grant_same, post-after_grant_other, flag-after_grant_same, flag-after_grant_other, moment-after_grant}
use Rattle.step_core.proofs.Runs.ActionShows.{object-with_owner, shown_flagged, here, object_here, monitors_turned, monitors_kept, with_holds, Goal, by_outcome, keeps_all, owner_changes, owned_by_me, not_mine, mine, shown_handed, shown_handed_over, Granting, first_granting, shows_wanting}

-- one hold is the last
only_one : (n : ℕ) → n ≤ 1 → (n ≡ 0 → ⊥) → n ≡ 1
only_one zero h some = absurd (some refl)
only_one (suc n) h some = omega arith

module _ (w : WorldState) (sound : IsSound w) (k : ℕ) (t : ThreadId) (berth : berth_of w.berths t ≡ Some k) (out : post_of w.fats t ≡ Some Out) where
  -- fat actions, call by call, by the owner that is found
  pub enter_run : (o : ObjectId) (m : ℕ) (is : Is (shown w) t (flag_at w.fats t) (doing.Wants (call.Enter o))) (shows : lock_at w o.0 ≡ Fat m) → IsFair (monitor_at w.fats m)
      → (own : Option ThreadId) → (monitor_at w.fats m).owner ≡ own → Goal w k t (call.Enter o) (action.Enter m)
  enter_run o m is shows fair None own =
      owner_changes w sound k t berth out (call.Enter o) o m is shows (action.Enter m) reply.Entered (Some t) 1 (rw own refl)
      (run_entered (shown w) t (flag_at w.fats t) o 0 is (inl (rw shows own)) (rw shows (fair.1.0 own)) (omega arith))
  enter_run o m is shows fair (Some u) own = by_test (u.0 == t.0) refl (cases_lt (monitor_at w.fats m).holds 65535)
    where
      parks : (u.0 == t.0) ≡ false → Goal w k t (call.Enter o) (action.Enter m)
      parks other =
          by_outcome w k t (call.Enter o) (action.Enter m) (answers (after_parking w.fats t (Entering m) m Entry) answer.Parked None None) (rw (own, other) refl)
          (shown_turned w sound k t berth (after_parking w.fats t (Entering m) m Entry) AtPost (no_move (atomic.Acted (action.Enter m) answer.Parked)) (shown w) refl refl
          (λ v. at_thread v (cases_eq v.0 t.0)) (monitors_kept w k (after_parking w.fats t (Entering m) m Entry) AtPost (no_move (atomic.Acted (action.Enter m) answer.Parked)) refl))
        where
          wants : act_of (after_parking w.fats t (Entering m) m Entry) (post_at (after_parking w.fats t (Entering m) m Entry) t) AtPost ≡ doing.Wants (call.Enter o)
          wants =
              ap (λ (q : Post). act_of (after_parking w.fats t (Entering m) m Entry) q AtPost)
              (post_is (after_parking w.fats t (Entering m) m Entry) t (Entering m) (post-with_post_same w.fats t (Entering m)))
              ∙ ap (λ (x : ObjectId). doing.Wants (call.Enter x)) (object_here w sound o m shows)

          at_thread : (v : ThreadId) → (v.0 ≡ t.0) ⊎ (v.0 ≡ t.0 → ⊥)
              → thread_of (with_go w k (fats_changed w (after_parking w.fats t (Entering m) m Entry) AtPost (no_move (atomic.Acted (action.Enter m) answer.Parked)))) v (berth_of w.berths v) ≡ (shown w).thread v
          at_thread v (inl e) =
              own_thread w sound k t berth (after_parking w.fats t (Entering m) m Entry) AtPost (no_move (atomic.Acted (action.Enter m) answer.Parked)) (does (flag_at w.fats t) (doing.Wants (call.Enter o))) (ap (does (flag_at w.fats t)) wants) v e
              ∙ sym (ap (λ (x : ThreadId). (shown w).thread x) (one_thread v t e) ∙ is)
          at_thread v (inr ne) =
              kept_thread w sound k t berth (after_parking w.fats t (Entering m) m Entry) AtPost (no_move (atomic.Acted (action.Enter m) answer.Parked)) v ne
              (acts_alike w.fats (after_parking w.fats t (Entering m) m Entry) v sound.fats refl
              (same_post w.fats (after_parking w.fats t (Entering m) m Entry) v (post-with_post_other w.fats t v (Entering m) (λ e. ne (ap (λ (x : ThreadId). x.0) e)))) (λ j h. refl))

      by_test : (b : Bool) → (u.0 == t.0) ≡ b → ((monitor_at w.fats m).holds < 65535) ⊎ (65535 ≤ (monitor_at w.fats m).holds) → Goal w k t (call.Enter o) (action.Enter m)
      by_test true same (inl few) =
          owner_changes w sound k t berth out (call.Enter o) o m is shows (action.Enter m) reply.Entered (Some u) ((monitor_at w.fats m).holds + 1) (rw (own, same, lt-ltb (monitor_at w.fats m).holds 65535 few) refl)
          (subst (λ (x : ThreadId). Run (shown w) (move.Lock t ∷ move.Return t reply.Entered ∷ []) (with_monitor (now_is (shown w) t (flag_at w.fats t) doing.Idle) o (held x ((monitor_at w.fats m).holds + 1))))
          (sym (same_thread u t same))
          (run_entered (shown w) t (flag_at w.fats t) o (monitor_at w.fats m).holds is (inr (owned_by_me w sound k t berth out (call.Enter o) o m is shows (mine w sound k t berth out (call.Enter o) o m is shows (Some u) own same))) (rw shows refl) few))
      by_test true same (inr full) =
          keeps_all w sound k t berth out (call.Enter o) (action.Enter m) (reply.Refused cause.TooDeep) (rw (own, same, le-ltb (monitor_at w.fats m).holds 65535 full) refl)
          (run_refused (shown w) t (flag_at w.fats t) (call.Enter o) cause.TooDeep is
          (owned_by_me w sound k t berth out (call.Enter o) o m is shows (mine w sound k t berth out (call.Enter o) o m is shows (Some u) own same), rw shows (omega arith)))
      by_test false other h = parks other

  pub holds_run : (o : ObjectId) (m : ℕ) (is : Is (shown w) t (flag_at w.fats t) (doing.Wants (call.Holds o))) (shows : lock_at w o.0 ≡ Fat m)
      → (b : Bool) → is_owned_by (monitor_at w.fats m).owner t ≡ b → Goal w k t (call.Holds o) (action.Holds m)
  holds_run o m is shows true b =
      keeps_all w sound k t berth out (call.Holds o) (action.Holds m) reply.Yes (rw b refl) (run_yes (shown w) t (flag_at w.fats t) o is (owned_by_me w sound k t berth out (call.Holds o) o m is shows (mine w sound k t berth out (call.Holds o) o m is shows (monitor_at w.fats m).owner refl b)))
  holds_run o m is shows false b =
      keeps_all w sound k t berth out (call.Holds o) (action.Holds m) reply.No (rw b refl) (run_no (shown w) t (flag_at w.fats t) o is (not_mine w sound k t berth out (call.Holds o) o m is shows (monitor_at w.fats m).owner refl b))

  -- a call for the owner alone, by another
  pub illegal_run : (c : Call) (a : Action) (o : ObjectId) (m : ℕ) (is : Is (shown w) t (flag_at w.fats t) (doing.Wants c)) (shows : lock_at w o.0 ≡ Fat m) → owner_only c ≡ Some o
      → is_owned_by (monitor_at w.fats m).owner t ≡ false → outcome_of w.fats t a ≡ replies w.fats reply.IllegalMonitorState → Goal w k t c a
  illegal_run c a o m is shows only b e =
      keeps_all w sound k t berth out c a reply.IllegalMonitorState e
      (run_illegal (shown w) t (flag_at w.fats t) c o only is (not_mine w sound k t berth out c o m is shows (monitor_at w.fats m).owner refl b))

  -- the owner gives up its last hold, or all of them
  module _ (o : ObjectId) (m : ℕ) (shows : lock_at w o.0 ≡ Fat m) (own : (monitor_at w.fats m).owner ≡ Some t) where
    monitor_held : (n : ℕ) → (monitor_at w.fats m).holds ≡ n → (shown w).monitor o ≡ held t n
    monitor_held n e = rw shows (λ i. record { owner = own i; count = e i })

    -- the state in which t has this flag and does this, and o is free
    abbrev given_up : Bool → Doing → State
    given_up flag d = with_monitor (now_is (shown w) t flag d) o free

    free_then : (flag : Bool) (d : Doing) → (given_up flag d).monitor o ≡ free
    free_then flag d = rw (eq-eqb o.0 o.0 refl) refl

  pub exit_run : (o : ObjectId) (m : ℕ) (is : Is (shown w) t (flag_at w.fats t) (doing.Wants (call.Exit o))) (shows : lock_at w o.0 ≡ Fat m) → IsFair (monitor_at w.fats m)
      → (b : Bool) → is_owned_by (monitor_at w.fats m).owner t ≡ b → Goal w k t (call.Exit o) (action.Exit m)
  exit_run o m is shows fair false b = illegal_run (call.Exit o) (action.Exit m) o m is shows refl b (rw b refl)
  exit_run o m is shows fair true b = by_holds (nat_lt 1 (monitor_at w.fats m).holds) refl
    where
      own : (monitor_at w.fats m).owner ≡ Some t
      own = mine w sound k t berth out (call.Exit o) o m is shows (monitor_at w.fats m).owner refl b

      some : (monitor_at w.fats m).holds ≡ 0 → ⊥
      some z = absurd (let none : (monitor_at w.fats m).owner ≡ None = fair.1.1 z in let never : Some t ≡ None = sym own ∙ none in cc)

      one_hold : nat_lt 1 (monitor_at w.fats m).holds ≡ false → (monitor_at w.fats m).holds ≡ 1
      one_hold one = only_one (monitor_at w.fats m).holds (ltb-false 1 (monitor_at w.fats m).holds one) some

      -- with the last hold the monitor goes to the first of the entry line
      last : nat_lt 1 (monitor_at w.fats m).holds ≡ false → (first : Option ThreadId) → first_of w.fats m Entry ≡ first → Goal w k t (call.Exit o) (action.Exit m)
      last one None first =
          owner_changes w sound k t berth out (call.Exit o) o m is shows (action.Exit m) reply.Exited None 0 (rw (b, one, first) refl)
          (run_exited (shown w) t (flag_at w.fats t) o 0 is (monitor_held o m shows own 1 (one_hold one)))
      last one (Some u) first =
          by_outcome w k t (call.Exit o) (action.Exit m) (answers (after_grant w.fats m u x.post Entry) (answer.Reply reply.Exited) (Some u) None) (rw (b, one, first, post_is w.fats u x.post x.is_at) refl)
          (rw theirs
          (subst (λ (s : State). Run (shown w) (move.Unlock t ∷ granting u (Granted r) ∷ move.Return t reply.Exited ∷ []) s) (sym shown_then)
          (run_handed_over (shown w) t u (flag_at w.fats t) (settled_flag x.post (flag_at w.fats u)) o n r (doing.Has reply.Exited) (move.Unlock t) (granting u (Granted r))
          (flag_at w.fats t, o, 0, is, monitor_held o m shows own 1 (one_hold one), refl)
          (x.grants (given_up o m shows own (flag_at w.fats t) (doing.Has reply.Exited)) (flag_at w.fats u) wanting (free_then o m shows own (flag_at w.fats t) (doing.Has reply.Exited)))
          reply.Exited refl tt (λ e. x.apart (sym e)))))
        where
          x : Granting w sound k t berth out (call.Exit o) o m is shows u
          x = first_granting w sound k t berth out (call.Exit o) o m is shows u first

          g : FatState
          g = after_grant w.fats m u x.post Entry

          r : Reply
          r = reply_granted x.post

          n : ℕ
          n = holds_granted x.post

          theirs_flag : Bool
          theirs_flag = settled_flag x.post (flag_at w.fats u)

          apart : t ≢ u
          apart e = x.apart (sym (ap (λ (y : ThreadId). y.0) e))

          theirs : post_at (after_grant w.fats m u x.post Entry) u ≡ Granted (reply_granted x.post)
          theirs = post_is (after_grant w.fats m u x.post Entry) u (Granted (reply_granted x.post)) (post-after_grant_same w.fats m u x.post Entry)

          wanting : Is (given_up o m shows own (flag_at w.fats t) (doing.Has reply.Exited)) u (flag_at w.fats u) x.act
          wanting = now_is-other (shown w) u t (flag_at w.fats t) (doing.Has reply.Exited) x.apart ∙ shows_wanting w sound k t berth out (call.Exit o) o m is shows u x

          did : Did
          did = move_grant_and_return (atomic.Acted (action.Exit m) (answer.Reply reply.Exited)) (move.Unlock t) (Some (granting u (Granted r))) t reply.Exited

          shown_then : shown (with_go w k (fats_changed w g Idle did)) ≡ with_monitor (now_is (now_is (shown w) u theirs_flag (doing.Has r)) t (flag_at w.fats t) doing.Idle) o (held u n)
          shown_then = shown_handed_over w sound k t berth out (call.Exit o) o m is shows u g Idle did (flag_at w.fats t) theirs_flag doing.Idle r n x.apart x.live
              (rw (flag-after_grant_other w.fats m u x.post Entry t apart) (ap (does (flag_at w.fats t)) (act_out g t Idle (post-after_grant_other w.fats m u x.post Entry t apart ∙ out))))
              theirs (flag-after_grant_same w.fats m u x.post Entry)
              (λ v ne nu. same_post w.fats g v (post-after_grant_other w.fats m u x.post Entry v (λ e. nu (ap (λ (y : ThreadId). y.0) e))))
              (λ v ne nu. flag-after_grant_other w.fats m u x.post Entry v (λ e. nu (ap (λ (y : ThreadId). y.0) e)))
              (moment-after_grant w.fats m u x.post Entry)
              (monitors-after_grant w.fats m u x.post Entry)

      by_holds : (more : Bool) → nat_lt 1 (monitor_at w.fats m).holds ≡ more → Goal w k t (call.Exit o) (action.Exit m)
      by_holds true more =
          let above : 1 < (monitor_at w.fats m).holds = ltb-true 1 (monitor_at w.fats m).holds more in
          let still : ((monitor_at w.fats m).holds - 1 == 0) ≡ false = ne_eqb ((monitor_at w.fats m).holds - 1) 0 (λ z. absurd (omega arith)) in
          owner_changes w sound k t berth out (call.Exit o) o m is shows (action.Exit m) reply.Exited (Some t) ((monitor_at w.fats m).holds - 1) (rw (b, more) refl)
          (rw still at (run_exited (shown w) t (flag_at w.fats t) o ((monitor_at w.fats m).holds - 1) is (monitor_held o m shows own ((monitor_at w.fats m).holds - 1 + 1) (omega arith))))
      by_holds false one = last one (first_of w.fats m Entry) refl

  -- a wait whose time is in its range joins the wait set, and the monitor goes to the first of the entry line
  pub wait_run : (o : ObjectId) (millis nanos : ℤ) (m : ℕ) (is : Is (shown w) t (flag_at w.fats t) (doing.Wants (call.Wait o millis nanos))) (shows : lock_at w o.0 ≡ Fat m)
      → (b : Bool) → is_owned_by (monitor_at w.fats m).owner t ≡ b → Goal w k t (call.Wait o millis nanos) (action.Wait m millis nanos)
  wait_run o millis nanos m is shows false b = illegal_run (call.Wait o millis nanos) (action.Wait m millis nanos) o m is shows refl b (rw b refl)
  wait_run o millis nanos m is shows true b = by_time (are_good millis nanos) refl
    where
      own : (monitor_at w.fats m).owner ≡ Some t
      own = mine w sound k t berth out (call.Wait o millis nanos) o m is shows (monitor_at w.fats m).owner refl b

      h : ℕ
      h = (monitor_at w.fats m).holds

      post : Post
      post = Waiting m (monitor_at w.fats m).holds (deadline w.fats.moment millis nanos)

      waits : Doing
      waits = doing.Waits o (monitor_at w.fats m).holds (deadline w.fats.moment millis nanos)

      -- what a fat state shows of a thread that it parks so
      waiting : (f : FatState) → (monitor_at f m).object ≡ (monitor_at w.fats m).object
          → act_of (after_parking f t post m WaitSet) (post_at (after_parking f t post m WaitSet) t) AtPost ≡ waits
      waiting f same =
          ap (λ (q : Post). act_of (after_parking f t post m WaitSet) q AtPost) (post_is (after_parking f t post m WaitSet) t post (post-with_post_same f t post))
          ∙ ap (λ (x : ObjectId). doing.Waits x (monitor_at w.fats m).holds (deadline w.fats.moment millis nanos)) (same ∙ object_here w sound o m shows)

      mine_then : (f : FatState) → flag_at f t ≡ false → (monitor_at f m).object ≡ (monitor_at w.fats m).object
          → thread_in (after_parking f t post m WaitSet) t AtPost ≡ does false waits
      mine_then f clear same = rw clear (ap (does false) (waiting f same))

      gives_up : (flag_at w.fats t) ≡ false → AreGood millis nanos → Steps (shown w) (move.Wait t) (given_up o m shows own false waits)
      gives_up clear good = (
        o,
        millis,
        nanos,
        subst (λ (flag : Bool). Is (shown w) t flag (doing.Wants (call.Wait o millis nanos))) clear is,
        owned_by_me w sound k t berth out (call.Wait o millis nanos) o m is shows own,
        good,
        ap (λ (x : Monitor). with_monitor (now_is (shown w) t false (doing.Waits o x.count (deadline w.fats.moment millis nanos))) o free) (sym (monitor_held o m shows own (monitor_at w.fats m).holds refl)),
      )

      parks : (flag_at w.fats t) ≡ false → are_good millis nanos ≡ true → (first : Option ThreadId) → first_of w.fats m Entry ≡ first → Goal w k t (call.Wait o millis nanos) (action.Wait m millis nanos)
      parks clear good None first =
          by_outcome w k t (call.Wait o millis nanos) (action.Wait m millis nanos) (answers g answer.Parked None None) (rw (b, good, clear, first) refl)
          (given_up o m shows own false waits, gives_up clear (good_time millis nanos good), shown_then)
        where
          f : FatState
          f = with_owner w.fats m None 0

          g : FatState
          g = after_parking f t post m WaitSet

          did : Did
          did = parking (call.Wait o millis nanos) (atomic.Acted (action.Wait m millis nanos) answer.Parked) t None

          at_thread : (v : ThreadId) → (v.0 ≡ t.0) ⊎ (v.0 ≡ t.0 → ⊥) → thread_of (with_go w k (fats_changed w g AtPost did)) v (berth_of w.berths v) ≡ (now_is (shown w) t false waits).thread v
          at_thread v (inl e) =
              rw (eq-eqb v.0 t.0 e) (own_thread w sound k t berth g AtPost did (does false waits) (mine_then f clear (object-with_owner w.fats m None 0 m (here w sound o m shows).0)) v e)
          at_thread v (inr ne) =
              rw (ne_eqb v.0 t.0 ne) (kept_thread w sound k t berth g AtPost did v ne
              (acts_alike w.fats g v sound.fats refl (same_post w.fats g v (post-with_post_other f t v post (λ e. ne (ap (λ (y : ThreadId). y.0) e))))
              (λ j l. object-with_owner w.fats m None 0 j (here w sound o m shows).0)))

          shown_then : shown (with_go w k (fats_changed w g AtPost did)) ≡ given_up o m shows own false waits
          shown_then =
              shown_turned w sound k t berth g AtPost did (given_up o m shows own false waits) refl refl (λ v. at_thread v (cases_eq v.0 t.0))
              (monitors_turned w sound o m shows k g AtPost did (with_holds w m None 0)
              (get_or-set_same w.fats.monitors m (with_holds w m None 0) unbound (here w sound o m shows).0)
              (λ j ne. get_or-set_other w.fats.monitors m j (with_holds w m None 0) unbound ne))
      parks clear good (Some u) first =
          by_outcome w k t (call.Wait o millis nanos) (action.Wait m millis nanos) (answers g answer.Parked (Some u) None) (rw (b, good, clear, first, post_is w.fats u x.post x.is_at) refl)
          (rw theirs
          (subst (λ (s : State). Run (shown w) (move.Wait t ∷ granting u (Granted r) ∷ []) s) (sym shown_then)
          (run_handed (shown w) t u false theirs_flag o n r waits (move.Wait t) (granting u (Granted r)) (gives_up clear (good_time millis nanos good))
          (x.grants (given_up o m shows own false waits) (flag_at w.fats u) wanting (free_then o m shows own false waits)))))
        where
          x : Granting w sound k t berth out (call.Wait o millis nanos) o m is shows u
          x = first_granting w sound k t berth out (call.Wait o millis nanos) o m is shows u first

          r : Reply
          r = reply_granted x.post

          n : ℕ
          n = holds_granted x.post

          f : FatState
          f = after_grant w.fats m u x.post Entry

          g : FatState
          g = after_parking f t post m WaitSet

          theirs_flag : Bool
          theirs_flag = settled_flag x.post (flag_at w.fats u)

          same_object : (monitor_at f m).object ≡ (monitor_at w.fats m).object
          same_object =
              ap (λ (xs : List fat.Monitor). (get_or xs m unbound).object) (monitors-after_grant w.fats m u x.post Entry)
              ∙ object-with_owner w.fats m (Some u) n m (here w sound o m shows).0

          theirs : post_at (after_parking (after_grant w.fats m u x.post Entry) t post m WaitSet) u ≡ Granted (reply_granted x.post)
          theirs =
              post_is g u (Granted r) (post-with_post_other f t u post (λ e. x.apart (ap (λ (y : ThreadId). y.0) e)) ∙ post-after_grant_same w.fats m u x.post Entry)

          wanting : Is (given_up o m shows own false waits) u (flag_at w.fats u) x.act
          wanting = now_is-other (shown w) u t false waits x.apart ∙ shows_wanting w sound k t berth out (call.Wait o millis nanos) o m is shows u x

          did : Did
          did = parking (call.Wait o millis nanos) (atomic.Acted (action.Wait m millis nanos) answer.Parked) t (Some (granting u (Granted r)))

          shown_then : shown (with_go w k (fats_changed w g AtPost did)) ≡ with_monitor (now_is (now_is (shown w) t false waits) u theirs_flag (doing.Has r)) o (held u n)
          shown_then = shown_handed w sound k t berth out (call.Wait o millis nanos) o m is shows u g AtPost did false theirs_flag waits r n x.apart x.live
              (mine_then f (flag-after_grant_other w.fats m u x.post Entry t (λ e. x.apart (sym (ap (λ (y : ThreadId). y.0) e))) ∙ clear) same_object)
              theirs (flag-after_grant_same w.fats m u x.post Entry)
              (λ v ne nu. same_post w.fats g v (post-with_post_other f t v post (λ e. ne (ap (λ (y : ThreadId). y.0) e)) ∙ post-after_grant_other w.fats m u x.post Entry v (λ e. nu (ap (λ (y : ThreadId). y.0) e))))
              (λ v ne nu. flag-after_grant_other w.fats m u x.post Entry v (λ e. nu (ap (λ (y : ThreadId). y.0) e)))
              (moment-after_grant w.fats m u x.post Entry)
              (monitors-after_grant w.fats m u x.post Entry)

      -- an interrupted thread does not wait
      early : flag_at w.fats t ≡ true → are_good millis nanos ≡ true → Goal w k t (call.Wait o millis nanos) (action.Wait m millis nanos)
      early set good =
          by_outcome w k t (call.Wait o millis nanos) (action.Wait m millis nanos) (replies (with_flag w.fats t false) reply.Interrupted) (rw (b, good, set) refl)
          (subst (λ (s : State). Run (shown w) (move.Early t ∷ move.Return t reply.Interrupted ∷ []) s) (sym (shown_flagged w sound k t berth out false (move_and_return (atomic.Acted (action.Wait m millis nanos) (answer.Reply reply.Interrupted)) (move.Early t) t reply.Interrupted)))
          (run_early (shown w) t o millis nanos (subst (λ (flag : Bool). Is (shown w) t flag (doing.Wants (call.Wait o millis nanos))) set is)
          (owned_by_me w sound k t berth out (call.Wait o millis nanos) o m is shows own) (good_time millis nanos good)))

      by_flag : (flag : Bool) → flag_at w.fats t ≡ flag → are_good millis nanos ≡ true → Goal w k t (call.Wait o millis nanos) (action.Wait m millis nanos)
      by_flag true set good = early set good
      by_flag false clear good = parks clear good (first_of w.fats m Entry) refl

      by_time : (good : Bool) → are_good millis nanos ≡ good → Goal w k t (call.Wait o millis nanos) (action.Wait m millis nanos)
      by_time true good = by_flag (flag_at w.fats t) refl good
      by_time false bad =
          keeps_all w sound k t berth out (call.Wait o millis nanos) (action.Wait m millis nanos) reply.IllegalArgument (rw (b, bad) refl)
          (run_bad (shown w) t (flag_at w.fats t) o millis nanos is (owned_by_me w sound k t berth out (call.Wait o millis nanos) o m is shows own) (not_good millis nanos bad))
