-- Each notify, notifyAll and collect is a run of the machine on the shown states, and so is each action of a call.
use Rattle.std.specs.Prelude.{◌≡◌, ◌⊎◌, ℕ, ◌+◌, Bool, true, false, if◌then◌else◌, ◌==◌, [], ◌∷◌, Option, Some, None, IsSome}
use Rattle.std.specs.Option.{option_map, unwrap_or}
use Rattle.std.specs.Ordering.{nat_cmp}
use Rattle.std.specs.FinMap as map
use Rattle.std.proofs.Common.{refl, ap, sym, ◌∙◌, subst, inl, inr}
use Rattle.std.proofs.lemmas.Bool.{cases_eq, eq-eqb, ne_eqb}
use Rattle.std.proofs.lemmas.Option.{same_Some}
use Rattle.lock_word.specs.declared.ThreadId.{ThreadId}
use Rattle.lock_word.specs.declared.ObjectId.{ObjectId}
use Rattle.lock_word.specs.declared.Lock.{Lock}
use Rattle.lock_word.specs.declared.Lock.TheVariants.{Free, Thin, Fat}
use Rattle.thread_index.specs.Indices.{berth_of}
use Rattle.wait_lines.specs.declared.Role.TheVariants.{Waiting as WaitSet}
use Rattle.fat_monitor.specs.declared.monitors.Monitor as fat
use Rattle.fat_monitor.specs.declared.actions.Reply.{Reply}
use Rattle.fat_monitor.specs.declared.actions.Reply.TheVariants as reply
use Rattle.fat_monitor.specs.declared.actions.Answer.TheVariants as answer
use Rattle.fat_monitor.specs.declared.actions.Why.TheVariants as why
use Rattle.fat_monitor.specs.declared.actions.Action.TheVariants as action
use Rattle.fat_monitor.specs.declared.actions.Post.{Post}
use Rattle.fat_monitor.specs.declared.actions.Post.TheVariants.{Out, Entering, Waiting, Back, Granted}
use Rattle.fat_monitor.specs.FatState.{FatState, monitor_at, is_owned_by, IsFair, IsProper, post_of, post_at, flag_at, first_of, line_of, with_post}
use Rattle.fat_monitor.specs.Acting.{answers, after_sending_back, after_removals}
use Rattle.fat_monitor.proofs.Effects.{post-with_post_same, post-with_post_other, first_waiting, nobody_waiting, called_back, post-after_removals, monitors-after_removals, moment-after_removals}
use Rattle.fat_monitor.proofs.Flags.{flags-after_removals}
use Rattle.fast_path.specs.declared.calls.Operation.{Operation}
use Rattle.fast_path.specs.declared.calls.Operation.TheVariants as op
use Rattle.fast_path.specs.declared.calls.MonitorCall.{MonitorCall}
use Rattle.fast_path.specs.declared.calls.Call.TheVariants as call
use Rattle.fast_path.specs.Calls.{call_on, call_of}
use Rattle.step_core.specs.declared.machine.Doing.{Doing}
use Rattle.step_core.specs.declared.machine.Doing.TheVariants as doing
use Rattle.step_core.specs.declared.places.Place.{Place}
use Rattle.step_core.specs.declared.places.Place.TheVariants.{Idle, InCall, AtPost}
use Rattle.step_core.specs.declared.places.Stage.TheVariants.{Bound}
use Rattle.step_core.specs.declared.machine.Move.TheVariants as move
use Rattle.step_core.specs.declared.steps.Atomic.TheVariants as atomic
use Rattle.step_core.specs.declared.steps.Did.{Did}
use Rattle.step_core.specs.Machine.{State, Thread, Run, Is, now_is, NobodyWaits, after_notify_all, all_notified}
use Rattle.step_core.specs.World.{WorldState, place_at, lock_at}
use Rattle.step_core.specs.Shown.{shown, monitor_of, doing_of, act_of, thread_of}
use Rattle.step_core.specs.Sound.{IsSound, MayShow, Fitting, IsPublished}
use Rattle.step_core.specs.Did.{move_and_return, return_alone}
use Rattle.step_core.specs.Go.{with_go, fats_changed, action_on}
use Rattle.step_core.specs.Step.{moves_made}
use Rattle.step_core.proofs.Facts.Moves.{run_unnoticed, run_returned, run_notified, run_notified_all, IsPlain}
use Rattle.step_core.proofs.Facts.Moves.{one_object}
use Rattle.step_core.proofs.Facts.PlaceFacts.{not_waiting, woken_out, who_bound}
use Rattle.step_core.proofs.Facts.ShownStates.{does, thread_in, acts_alike, proper_at}
use Rattle.step_core.proofs.Facts.OneFatAction.{one_thread, same_post, post_is, own_thread, kept_thread, given_thread, by_berth, shown_turned}
use Rattle.step_core.proofs.Facts.OneThread.{stands_at, is_at, act_out}
use Rattle.step_core.proofs.Runs.WordRuns.{waits_object}
use Rattle.step_core.proofs.Runs.ActionShows.{act_same, object_here, monitors_kept, Goal, by_outcome, keeps_all, owned_by_me, mine}
use Rattle.step_core.proofs.Runs.ActionRuns.{enter_run, holds_run, illegal_run, exit_run, wait_run}

-- the post of a thread that is called back, if it waited
called_post : (m : ℕ) (x : Option Post) → unwrap_or (option_map (called_back m) x) Out ≡ called_back m (unwrap_or x Out)
called_post m None = refl
called_post m (Some q) = refl

module _ (w : WorldState) (sound : IsSound w) (k : ℕ) (t : ThreadId) (berth : berth_of w.berths t ≡ Some k) (out : post_of w.fats t ≡ Some Out) where
  -- two bound monitors have two objects: each is shown by its own, or is to be stored over a thin word
  one_monitor : (o : ObjectId) (m j : ℕ) → lock_at w o.0 ≡ Fat m → (monitor_at w.fats j).object ≡ o → IsPublished w j → j ≡ m
  one_monitor o m j shows same (inl fat) = let e : Fat j ≡ Fat m = sym (rw same at fat) ∙ shows in cc
  one_monitor o m j shows same (inr (i, there, bound)) =
      let b = who_bound (place_at w i) j bound in
      let fit : Fitting w i (InCall (Bound b.0 b.1 j)) = subst (λ (x : Place). Fitting w i x) b.2 (sound.places i there) in
      let object : b.0.object ≡ o = sym (ap (λ (y : fat.Monitor). y.object) fit.2.2) ∙ same in
      let never : Thin (i + 1) fit.2.0 ≡ Fat m = sym fit.2.1 ∙ ap (λ (y : ObjectId). lock_at w y.0) object ∙ shows in absurd (cc)

  -- nobody waits on the object where nobody waits on its monitor
  nobody_waits : (o : ObjectId) (m : ℕ) → lock_at w o.0 ≡ Fat m → first_of w.fats m WaitSet ≡ None → NobodyWaits (shown w) o
  nobody_waits o m shows none u flag x d is = by_berth (berth_of w.berths u) is
    where
      by_post : (p : Post) (q : Place) → post_at w.fats u ≡ p → IsProper w.fats p → act_of w.fats p q ≡ doing.Waits o x d → ⊥
      by_post Out q e h same = not_waiting q same
      by_post (Entering j) q e h same = absurd (cc)
      by_post (Waiting j y z) q e h same =
          let number : j ≡ m = one_monitor o m j shows (waits_object (monitor_at w.fats j).object o y x z d same) (sound.published j h.0) in
          by_option (post_of w.fats u) refl number e
        where
          by_option : (s : Option Post) → post_of w.fats u ≡ s → j ≡ m → unwrap_or s Out ≡ Waiting j y z → ⊥
          by_option None found number e = absurd (cc)
          by_option (Some p) found number e = nobody_waiting w.fats m sound.fats none u y z (found ∙ ap (λ (q : Post). Some q) (e ∙ ap (λ (i : ℕ). Waiting i y z) number))
      by_post (Back j y r) q e h same = absurd (cc)
      by_post (Granted r) q e h same = absurd (cc)

      by_berth : (s : Option ℕ) → thread_of w u s ≡ Some (record { flag = flag; act = doing.Waits o x d }) → ⊥
      by_berth None same = absurd (cc)
      by_berth (Some j) same = by_post (post_at w.fats u) (place_at w j) refl (proper_at w.fats u sound.fats) (ap (λ (y : Thread). y.act) (same_Some _ _ same))

  notify_run : (o : ObjectId) (m : ℕ) (is : Is (shown w) t (flag_at w.fats t) (doing.Wants (call.Notify o))) (shows : lock_at w o.0 ≡ Fat m)
      → (b : Bool) → is_owned_by (monitor_at w.fats m).owner t ≡ b → (first : Option ThreadId) → first_of w.fats m WaitSet ≡ first
      → Goal w k t (call.Notify o) (action.Notify m)
  notify_run o m is shows false b first e = illegal_run w sound k t berth out (call.Notify o) (action.Notify m) o m is shows refl b (rw b refl)
  notify_run o m is shows true b None e =
      let own = mine w sound k t berth out (call.Notify o) o m is shows (monitor_at w.fats m).owner refl b in
      keeps_all w sound k t berth out (call.Notify o) (action.Notify m) reply.Notified (rw (b, e) refl)
      (run_unnoticed (shown w) t (flag_at w.fats t) o is (owned_by_me w sound k t berth out (call.Notify o) o m is shows own) (nobody_waits o m shows e))
  notify_run o m is shows true b (Some u) e =
      by_outcome w k t (call.Notify o) (action.Notify m) (answers g (answer.Reply reply.Notified) None (Some u)) (rw (b, e, post_is w.fats u (Waiting m n d) at, own) refl)
      (subst (λ (s : State). Run (shown w) (move.Notify t (Some u) ∷ move.Return t reply.Notified ∷ []) s) (sym shown_then)
      (run_notified (shown w) t u (flag_at w.fats t) (flag_at w.fats u) o n d is (owned_by_me w sound k t berth out (call.Notify o) o m is shows own) waiting (λ x. apart (sym x))))
    where
      own : (monitor_at w.fats m).owner ≡ Some t
      own = mine w sound k t berth out (call.Notify o) o m is shows (monitor_at w.fats m).owner refl b

      n : ℕ
      n = (first_waiting w.fats m u sound.fats e).0

      d : Option ℕ
      d = (first_waiting w.fats m u sound.fats e).1

      at : post_of w.fats u ≡ Some (Waiting m n d)
      at = (first_waiting w.fats m u sound.fats e).2

      g : FatState
      g = after_sending_back w.fats u m (Back m n why.Notified) (Some t)

      did : Did
      did = move_and_return (atomic.Acted (action.Notify m) (answer.Reply reply.Notified)) (move.Notify t (Some u)) t reply.Notified

      apart : u.0 ≡ t.0 → ⊥
      apart same = let never : Waiting m n d ≡ Out = same_Some _ _ (sym at ∙ ap (λ (i : ℕ). post_of w.fats (record { 0 = i })) same ∙ out) in absurd (cc)

      live : IsSome (berth_of w.berths u)
      live = sound.live u (rw at refl)

      object_is : (monitor_at w.fats m).object ≡ o
      object_is = object_here w sound o m shows

      waiting : Is (shown w) u (flag_at w.fats u) (doing.Waits o n d)
      waiting = by_one (berth_of w.berths u) live
        where
          by_one : (y : Option ℕ) → IsSome y → thread_of w u y ≡ Some (does (flag_at w.fats u) (doing.Waits o n d))
          by_one None h = absurd (cc)
          by_one (Some j) h = ap (λ (x : Doing). Some (does (flag_at w.fats u) x))
              (ap (λ (q : Post). act_of w.fats q (place_at w j)) (post_is w.fats u (Waiting m n d) at) ∙ ap (λ (x : ObjectId). doing.Waits x n d) object_is)

      at_thread : (v : ThreadId) → (v.0 ≡ t.0) ⊎ (v.0 ≡ t.0 → ⊥) → (v.0 ≡ u.0) ⊎ (v.0 ≡ u.0 → ⊥)
          → thread_of (with_go w k (fats_changed w g Idle did)) v (berth_of w.berths v) ≡ (now_is (now_is (shown w) u (flag_at w.fats u) (doing.Back o n why.Notified)) t (flag_at w.fats t) doing.Idle).thread v
      at_thread v (inl x) y =
          rw (eq-eqb v.0 t.0 x) (own_thread w sound k t berth g Idle did (does (flag_at w.fats t) doing.Idle)
          (ap (does (flag_at w.fats t)) (act_out g t Idle (post-with_post_other w.fats u t (Back m n why.Notified) (λ z. apart (sym (ap (λ (i : ThreadId). i.0) z))) ∙ out))) v x)
      at_thread v (inr ne) (inl y) =
          rw (ne_eqb v.0 t.0 ne, eq-eqb v.0 u.0 y, one_thread v u y)
          (given_thread w sound k t berth g Idle did u (does (flag_at w.fats u) (doing.Back o n why.Notified)) apart live
          (λ q. ap (λ (x : Post). does (flag_at w.fats u) (act_of g x q)) (post_is g u (Back m n why.Notified) (post-with_post_same w.fats u (Back m n why.Notified))) ∙ ap (λ (x : ObjectId). does (flag_at w.fats u) (doing.Back x n why.Notified)) object_is))
      at_thread v (inr ne) (inr nu) =
          rw (ne_eqb v.0 t.0 ne, ne_eqb v.0 u.0 nu)
          (kept_thread w sound k t berth g Idle did v ne
          (acts_alike w.fats g v sound.fats refl (same_post w.fats g v (post-with_post_other w.fats u v (Back m n why.Notified) (λ z. nu (ap (λ (i : ThreadId). i.0) z)))) (λ j l. refl)))

      shown_then : shown (with_go w k (fats_changed w g Idle did)) ≡ now_is (now_is (shown w) u (flag_at w.fats u) (doing.Back o n why.Notified)) t (flag_at w.fats t) doing.Idle
      shown_then = shown_turned w sound k t berth g Idle did (now_is (now_is (shown w) u (flag_at w.fats u) (doing.Back o n why.Notified)) t (flag_at w.fats t) doing.Idle) refl refl
          (λ v. at_thread v (cases_eq v.0 t.0) (cases_eq v.0 u.0)) (monitors_kept w k g Idle did refl)

  notify_all_run : (o : ObjectId) (m : ℕ) (is : Is (shown w) t (flag_at w.fats t) (doing.Wants (call.NotifyAll o))) (shows : lock_at w o.0 ≡ Fat m)
      → (b : Bool) → is_owned_by (monitor_at w.fats m).owner t ≡ b → Goal w k t (call.NotifyAll o) (action.NotifyAll m)
  notify_all_run o m is shows false b = illegal_run w sound k t berth out (call.NotifyAll o) (action.NotifyAll m) o m is shows refl b (rw b refl)
  notify_all_run o m is shows true b =
      by_outcome w k t (call.NotifyAll o) (action.NotifyAll m) (answers g (answer.Reply reply.Notified) None None) (rw b refl)
      (subst (λ (s : State). Run (shown w) (move.NotifyAll t ∷ move.Return t reply.Notified ∷ []) s) (sym shown_then)
      (run_notified_all (shown w) t (flag_at w.fats t) o is (owned_by_me w sound k t berth out (call.NotifyAll o) o m is shows own)))
    where
      own : (monitor_at w.fats m).owner ≡ Some t
      own = mine w sound k t berth out (call.NotifyAll o) o m is shows (monitor_at w.fats m).owner refl b

      g : FatState
      g = after_removals w.fats (line_of w.fats m WaitSet)

      did : Did
      did = move_and_return (atomic.Acted (action.NotifyAll m) (answer.Reply reply.Notified)) (move.NotifyAll t) t reply.Notified

      owned : IsSome (monitor_at w.fats m).owner
      owned = rw own refl

      same : (after_removals w.fats (line_of w.fats m WaitSet)).monitors ≡ w.fats.monitors
      same = monitors-after_removals w.fats m sound.fats owned

      posts : (v : ThreadId) → post_of (after_removals w.fats (line_of w.fats m WaitSet)) v ≡ option_map (called_back m) (post_of w.fats v)
      posts v = post-after_removals w.fats m v sound.fats owned

      flags : (v : ThreadId) → flag_at (after_removals w.fats (line_of w.fats m WaitSet)) v ≡ flag_at w.fats v
      flags v = ap (λ (fs : map.FinMap nat_cmp Bool). unwrap_or (map.get fs v.0) false) (flags-after_removals w.fats m sound.fats owned)

      -- a thread that waits on the object comes back, and another does what it did
      woken_post : (q : Post) (p : Place) → IsProper w.fats q → act_of w.fats (called_back m q) p ≡ after_notify_all o (act_of w.fats q p)
      woken_post Out p h = sym (woken_out o p)
      woken_post (Entering j) p h = refl
      woken_post (Waiting j n d) p h = by_number (cases_eq j m)
        where
          by_number : (j ≡ m) ⊎ (j ≡ m → ⊥) → act_of w.fats (if j == m then Back j n why.Notified else Waiting j n d) p
              ≡ (if (monitor_at w.fats j).object.0 == o.0 then doing.Back (monitor_at w.fats j).object n why.Notified else doing.Waits (monitor_at w.fats j).object n d)
          by_number (inl e) =
              let here : (monitor_at w.fats j).object.0 ≡ o.0 = ap (λ (i : ℕ). (monitor_at w.fats i).object.0) e ∙ ap (λ (x : ObjectId). x.0) (object_here w sound o m shows) in
              rw (eq-eqb j m e, eq-eqb (monitor_at w.fats j).object.0 o.0 here) refl
          by_number (inr ne) =
              let apart : (monitor_at w.fats j).object.0 ≡ o.0 → ⊥ = λ e. ne (one_monitor o m j shows (one_object (monitor_at w.fats j).object o e) (sound.published j h.0)) in
              rw (ne_eqb j m ne, ne_eqb (monitor_at w.fats j).object.0 o.0 apart) refl
      woken_post (Back j n y) p h = refl
      woken_post (Granted r) p h = refl

      at_thread : (v : ThreadId) → (v.0 ≡ t.0) ⊎ (v.0 ≡ t.0 → ⊥) → thread_of (with_go w k (fats_changed w g Idle did)) v (berth_of w.berths v) ≡ (now_is (all_notified (shown w) o) t (flag_at w.fats t) doing.Idle).thread v
      at_thread v (inl e) =
          rw (eq-eqb v.0 t.0 e) (own_thread w sound k t berth g Idle did (does (flag_at w.fats t) doing.Idle) (rw (flags t) (ap (does (flag_at w.fats t)) (act_out g t Idle (posts t ∙ ap (λ (x : Option Post). option_map (called_back m) x) out)))) v e)
      at_thread v (inr ne) = rw (ne_eqb v.0 t.0 ne) (by_berth w sound k t berth g Idle did v ne (berth_of w.berths v) refl ∙ by_one (berth_of w.berths v))
        where
          by_one : (x : Option ℕ) → option_map (λ (j : ℕ). thread_in g v (place_at w j)) x
              ≡ option_map (λ (y : Thread). let z : Thread = record { flag = y.flag; act = after_notify_all o y.act } in z) (thread_of w v x)
          by_one None = refl
          by_one (Some j) = rw (flags v) (ap (λ (x : Doing). Some (does (flag_at w.fats v) x))
              (act_same w.fats g (post_at g v) (place_at w j) same
              ∙ ap (λ (q : Post). act_of w.fats q (place_at w j)) (ap (λ (x : Option Post). unwrap_or x Out) (posts v) ∙ called_post m (post_of w.fats v))
              ∙ woken_post (post_at w.fats v) (place_at w j) (proper_at w.fats v sound.fats)))

      shown_then : shown (with_go w k (fats_changed w g Idle did)) ≡ now_is (all_notified (shown w) o) t (flag_at w.fats t) doing.Idle
      shown_then = shown_turned w sound k t berth g Idle did (now_is (all_notified (shown w) o) t (flag_at w.fats t) doing.Idle) refl (sym (moment-after_removals w.fats (line_of w.fats m WaitSet)))
          (λ v. at_thread v (cases_eq v.0 t.0)) (monitors_kept w k g Idle did same)

  -- a Go that makes the action of an operation's own name
  pub act_run : (c : MonitorCall) (m : ℕ) (p : Place) → place_at w k ≡ p → doing_of p ≡ doing.Wants (call_of c) → lock_at w c.object.0 ≡ Fat m
      → Goal w k t (call_of c) (action_on c.operation m)
  act_run c m p at wants shows = by_operation c.object c.operation (rw wants at (is_at w sound k t berth p at out)) shows
    where
      fair : (o : ObjectId) → lock_at w o.0 ≡ Fat m → IsFair (monitor_at w.fats m)
      fair o shows = let st : MayShow w o.0 (Fat m) = rw shows at (stands_at w sound o.0) in sound.fats.fair m st.0

      by_operation : (o : ObjectId) (p : Operation) → Is (shown w) t (flag_at w.fats t) (doing.Wants (call_on o p)) → lock_at w o.0 ≡ Fat m
          → Goal w k t (call_on o p) (action_on p m)
      by_operation o op.Enter is shows = enter_run w sound k t berth out o m is shows (fair o shows) (monitor_at w.fats m).owner refl
      by_operation o op.Exit is shows = exit_run w sound k t berth out o m is shows (fair o shows) (is_owned_by (monitor_at w.fats m).owner t) refl
      by_operation o (op.Wait millis nanos) is shows = wait_run w sound k t berth out o millis nanos m is shows (is_owned_by (monitor_at w.fats m).owner t) refl
      by_operation o op.Notify is shows = notify_run o m is shows (is_owned_by (monitor_at w.fats m).owner t) refl (first_of w.fats m WaitSet) refl
      by_operation o op.NotifyAll is shows = notify_all_run o m is shows (is_owned_by (monitor_at w.fats m).owner t) refl
      by_operation o op.Holds is shows = holds_run w sound k t berth out o m is shows (is_owned_by (monitor_at w.fats m).owner t) refl

-- a thread that was granted its reply returns with it
module _ (w : WorldState) (sound : IsSound w) (k : ℕ) (t : ThreadId) (berth : berth_of w.berths t ≡ Some k) where
  plain : (r : Reply) → (r ≡ reply.Entered) ⊎ ((r ≡ reply.WaitOver) ⊎ (r ≡ reply.Interrupted)) → IsPlain r
  plain r (inl e) = rw e tt
  plain r (inr (inl e)) = rw e tt
  plain r (inr (inr e)) = rw e tt

  pub collect_run : (r : Reply) → place_at w k ≡ AtPost → post_of w.fats t ≡ Some (Granted r)
      → Run (shown w) (moves_made (return_alone (atomic.Acted action.Collect (answer.Reply r)) t r).moves)
      (shown (with_go w k (fats_changed w (with_post w.fats t Out) Idle (return_alone (atomic.Acted action.Collect (answer.Reply r)) t r))))
  collect_run r at granted =
      subst (λ (s : State). Run (shown w) (move.Return t r ∷ []) s) (sym shown_then)
      (run_returned (shown w) t (flag_at w.fats t) r (plain r (sound.fats.proper t (Granted r) granted)) has)
    where
      g : FatState
      g = with_post w.fats t Out

      did : Did
      did = return_alone (atomic.Acted action.Collect (answer.Reply r)) t r

      has : Is (shown w) t (flag_at w.fats t) (doing.Has r)
      has = rw (berth, at) (ap (λ (q : Post). Some (does (flag_at w.fats t) (act_of w.fats q AtPost))) (post_is w.fats t (Granted r) granted))

      at_thread : (v : ThreadId) → (v.0 ≡ t.0) ⊎ (v.0 ≡ t.0 → ⊥) → thread_of (with_go w k (fats_changed w g Idle did)) v (berth_of w.berths v) ≡ (now_is (shown w) t (flag_at w.fats t) doing.Idle).thread v
      at_thread v (inl e) = rw (eq-eqb v.0 t.0 e) (own_thread w sound k t berth g Idle did (does (flag_at w.fats t) doing.Idle) (ap (does (flag_at w.fats t)) (act_out g t Idle (post-with_post_same w.fats t Out))) v e)
      at_thread v (inr ne) =
          rw (ne_eqb v.0 t.0 ne) (kept_thread w sound k t berth g Idle did v ne
          (acts_alike w.fats g v sound.fats refl (same_post w.fats g v (post-with_post_other w.fats t v Out (λ z. ne (ap (λ (i : ThreadId). i.0) z)))) (λ j l. refl)))

      monitors : (q : ObjectId) → monitor_of (with_go w k (fats_changed w g Idle did)) (lock_at w q.0) ≡ monitor_of w (lock_at w q.0)
      monitors q = at_lock (lock_at w q.0)
        where
          at_lock : (l : Lock) → monitor_of (with_go w k (fats_changed w g Idle did)) l ≡ monitor_of w l
          at_lock Free = refl
          at_lock (Thin i n) = refl
          at_lock (Fat j) = refl

      shown_then : shown (with_go w k (fats_changed w g Idle did)) ≡ now_is (shown w) t (flag_at w.fats t) doing.Idle
      shown_then = shown_turned w sound k t berth g Idle did (now_is (shown w) t (flag_at w.fats t) doing.Idle) refl refl (λ v. at_thread v (cases_eq v.0 t.0)) monitors
