-- Each end of a wait by itself, and each telling of the moment, is a run of the machine on the shown states.
use Rattle.std.specs.Prelude.{◌≡◌, ◌≢◌, ◌⊎◌, ℕ, ◌<◌, ◌≤◌, Bool, true, false, nat_lt, List, get_or, length, [], ◌∷◌, Option, Some, None}
use Rattle.std.proofs.Common.{refl, ap, sym, ◌∙◌, subst, inl, inr, get_or-set_same, get_or-set_other}
use Rattle.std.proofs.Math.Path.{fun_ext}
use Rattle.std.proofs.lemmas.Bool.{cases_eq, cond_both, eq-eqb, ne_eqb, ltb-false}
use Rattle.std.proofs.lemmas.List.{set-get_or}
use Rattle.lock_word.specs.declared.ThreadId.{ThreadId}
use Rattle.lock_word.specs.declared.ObjectId.{ObjectId}
use Rattle.lock_word.specs.declared.Lock.{Lock}
use Rattle.lock_word.specs.declared.Lock.TheVariants.{Free, Thin, Fat}
use Rattle.thread_index.specs.Indices.{berth_of}
use Rattle.wait_lines.specs.declared.Role.TheVariants.{Waiting as WaitSet}
use Rattle.fat_monitor.specs.declared.monitors.Monitor as fat
use Rattle.fat_monitor.specs.declared.actions.Answer.TheVariants as answer
use Rattle.fat_monitor.specs.declared.actions.Why.{Why}
use Rattle.fat_monitor.specs.declared.actions.Why.TheVariants as why
use Rattle.fat_monitor.specs.declared.actions.Action.TheVariants as action
use Rattle.fat_monitor.specs.declared.actions.Post.{Post}
use Rattle.fat_monitor.specs.declared.actions.Post.TheVariants.{Out, Entering, Waiting, Back, Granted}
use Rattle.fat_monitor.specs.FatState.{FatState, monitor_at, unbound, post_of, post_at, flag_at, with_owner, with_moment}
use Rattle.fat_monitor.specs.Acting.{Outcome, outcome_of, answers, after_grant, after_sending_back, after_removal, granted_by_removal, reply_back}
use Rattle.fat_monitor.proofs.Effects.{post-with_post_same, post-with_post_other}
use Rattle.fat_monitor.proofs.Flags.{settled_flag}
use Rattle.step_core.specs.declared.machine.Doing.{Doing}
use Rattle.step_core.specs.declared.machine.Doing.TheVariants as doing
use Rattle.step_core.specs.declared.places.Place.{Place}
use Rattle.step_core.specs.declared.places.Place.TheVariants.{Idle}
use Rattle.step_core.specs.declared.machine.Move.TheVariants as move
use Rattle.step_core.specs.declared.steps.Atomic.TheVariants as atomic
use Rattle.step_core.specs.declared.steps.Did.{Did}
use Rattle.step_core.specs.Machine.{State, Run, Steps, held, with_monitor, Is, now_is, Unowned, reply_of, flag_back}
use Rattle.step_core.specs.World.{WorldState, place_at, lock_at}
use Rattle.step_core.specs.Shown.{shown, monitor_of, thread_of}
use Rattle.step_core.specs.Sound.{IsSound}
use Rattle.step_core.specs.Did.{no_move, granting}
use Rattle.step_core.specs.Go.{with_go, fats_changed}
use Rattle.step_core.specs.Step.{AfterStep as Stepped, WaitEnd, time_over, wake_up, moves_of, after_wait_end, after_wait_end_as, after_tick}
use Rattle.step_core.proofs.Runs.Regaining.{run_back_free}
use Rattle.step_core.proofs.Facts.ShownStates.{does, acts_alike}
use Rattle.step_core.proofs.Facts.OneFatAction.{same_post, post_is, own_thread, kept_thread, shown_turned}
use Rattle.step_core.proofs.Facts.Grants.{monitors-after_grant, post-after_grant_same, post-after_grant_other, flag-after_grant_same, flag-after_grant_other, moment-after_grant}
use Rattle.step_core.proofs.Runs.ActionShows.{act_same, monitors_kept, monitors_turned, with_holds, object-with_owner}
use Rattle.step_core.proofs.Runs.InterruptRuns.{unowned_shows}

-- what the end of a wait tells, as a run
abbrev EndRun : WaitEnd → WorldState → ThreadId → Outcome → Type 0
EndRun x w t a = Run (shown w) (moves_of (after_wait_end_as x w t a.answer a.after).answer) (shown (after_wait_end_as x w t a.answer a.after).after)

-- what a grant makes of a thread that is back is what the machine makes of it
reply_back-of : (y : Why) → reply_back y ≡ reply_of y
reply_back-of why.Notified = refl
reply_back-of why.Interrupted = refl
reply_back-of why.Elapsed = refl
reply_back-of why.Spurious = refl

settled_flag-back : (m n : ℕ) (y : Why) (flag : Bool) → settled_flag (Back m n y) flag ≡ flag_back y flag
settled_flag-back m n why.Notified flag = refl
settled_flag-back m n why.Interrupted flag = refl
settled_flag-back m n why.Elapsed flag = refl
settled_flag-back m n why.Spurious flag = refl

granting-back : (t : ThreadId) (y : Why) → granting t (Granted (reply_back y)) ≡ move.Relock t
granting-back t why.Notified = refl
granting-back t why.Interrupted = refl
granting-back t why.Elapsed = refl
granting-back t why.Spurious = refl

module _ (w : WorldState) (sound : IsSound w) (t : ThreadId) (k : ℕ) (berth : berth_of w.berths t ≡ Some k) where
  -- nothing but the fat state changes, as where the thread at berth k keeps its place
  as_gone : (g : FatState) (did : Did) → shown (record w { fats = g }) ≡ shown (with_go w k (fats_changed w g (place_at w k) did))
  as_gone g did = ap (λ (ps : List Place). shown (record w { fats = g; places = ps })) (sym (set-get_or w.places k Idle))

  waits : (m n : ℕ) (d : Option ℕ) → post_of w.fats t ≡ Some (Waiting m n d) → Is (shown w) t (flag_at w.fats t) (doing.Waits (monitor_at w.fats m).object n d)
  waits m n d at = rw (berth, post_is w.fats t (Waiting m n d) at) refl

  -- t waits, and leaves its wait set for this reason, as the machine may
  module _ (x : WaitEnd) (y : Why) (m n : ℕ) (d : Option ℕ) (at : post_of w.fats t ≡ Some (Waiting m n d))
      (leaves : Steps (shown w) (x.made t) (now_is (shown w) t (flag_at w.fats t) (doing.Back (monitor_at w.fats m).object n y))) where
    did : Did
    did = no_move (atomic.Acted x.action answer.Quiet)

    -- behind an owner it comes back
    behind_run : (owner : ThreadId) → EndRun x w t (answers (after_sending_back w.fats t m (Back m n y) (Some owner)) answer.Quiet None None)
    behind_run owner =
        subst (λ (s : State). Run (shown w) (x.made t ∷ []) s) (sym (as_gone g did ∙ shown_then))
        (now_is (shown w) t (flag_at w.fats t) (doing.Back (monitor_at w.fats m).object n y), leaves, refl)
      where
        g : FatState
        g = after_sending_back w.fats t m (Back m n y) (Some owner)

        at_thread : (v : ThreadId) → (v.0 ≡ t.0) ⊎ (v.0 ≡ t.0 → ⊥)
            → thread_of (with_go w k (fats_changed w g (place_at w k) did)) v (berth_of w.berths v) ≡ (now_is (shown w) t (flag_at w.fats t) (doing.Back (monitor_at w.fats m).object n y)).thread v
        at_thread v (inl e) =
            rw (eq-eqb v.0 t.0 e) (own_thread w sound k t berth g (place_at w k) did (does (flag_at w.fats t) (doing.Back (monitor_at w.fats m).object n y))
            (rw (post_is g t (Back m n y) (post-with_post_same w.fats t (Back m n y))) refl) v e)
        at_thread v (inr ne) =
            rw (ne_eqb v.0 t.0 ne) (kept_thread w sound k t berth g (place_at w k) did v ne
            (acts_alike w.fats g v sound.fats refl (same_post w.fats g v (post-with_post_other w.fats t v (Back m n y) (λ z. ne (ap (λ (u : ThreadId). u.0) z)))) (λ j l. refl)))

        shown_then : shown (with_go w k (fats_changed w g (place_at w k) did)) ≡ now_is (shown w) t (flag_at w.fats t) (doing.Back (monitor_at w.fats m).object n y)
        shown_then =
            shown_turned w sound k t berth g (place_at w k) did (now_is (shown w) t (flag_at w.fats t) (doing.Back (monitor_at w.fats m).object n y)) refl refl
            (λ v. at_thread v (cases_eq v.0 t.0)) (monitors_kept w k g (place_at w k) did refl)

    -- a monitor that nobody owns it gets at once
    served_run : (monitor_at w.fats m).owner ≡ None → EndRun x w t (answers (after_grant w.fats m t (Back m n y) WaitSet) answer.Quiet (Some t) None)
    served_run free =
        rw (theirs, granting-back t y)
        (subst (λ (s : State). Run (shown w) (x.made t ∷ move.Relock t ∷ []) s) (sym (as_gone g did ∙ shown_then))
        (run_back_free (shown w) (x.made t) t (flag_at w.fats t) o n y leaves unowned))
      where
        p : Post
        p = Back m n y

        g : FatState
        g = after_grant w.fats m t (Back m n y) WaitSet

        o : ObjectId
        o = (monitor_at w.fats m).object

        after : State
        after = with_monitor (now_is (shown w) t (flag_back y (flag_at w.fats t)) (doing.Has (reply_of y))) (monitor_at w.fats m).object (held t n)

        bound : m < length w.fats.monitors
        bound = (sound.fats.proper t (Waiting m n d) at).0

        shows : lock_at w (monitor_at w.fats m).object.0 ≡ Fat m
        shows = unowned_shows w sound m bound free

        unowned : Unowned (shown w) (monitor_at w.fats m).object
        unowned = rw shows free

        theirs : post_at (after_grant w.fats m t (Back m n y) WaitSet) t ≡ Granted (reply_back y)
        theirs = post_is g t (Granted (reply_back y)) (post-after_grant_same w.fats m t (Back m n y) WaitSet)

        flag : flag_at (after_grant w.fats m t (Back m n y) WaitSet) t ≡ flag_back y (flag_at w.fats t)
        flag = flag-after_grant_same w.fats m t (Back m n y) WaitSet ∙ settled_flag-back m n y (flag_at w.fats t)

        same : (after_grant w.fats m t (Back m n y) WaitSet).monitors ≡ (with_owner w.fats m (Some t) n).monitors
        same = monitors-after_grant w.fats m t (Back m n y) WaitSet

        at_thread : (v : ThreadId) → (v.0 ≡ t.0) ⊎ (v.0 ≡ t.0 → ⊥) → thread_of (with_go w k (fats_changed w g (place_at w k) did)) v (berth_of w.berths v) ≡ after.thread v
        at_thread v (inl e) =
            rw (eq-eqb v.0 t.0 e) (own_thread w sound k t berth g (place_at w k) did (does (flag_back y (flag_at w.fats t)) (doing.Has (reply_of y)))
            (rw (theirs, flag, reply_back-of y) refl) v e)
        at_thread v (inr ne) =
            let other : v ≢ t = λ z. ne (ap (λ (u : ThreadId). u.0) z) in
            rw (ne_eqb v.0 t.0 ne) (kept_thread w sound k t berth g (place_at w k) did v ne
            (acts_alike w.fats g v sound.fats (flag-after_grant_other w.fats m t p WaitSet v other) (same_post w.fats g v (post-after_grant_other w.fats m t p WaitSet v other))
            (λ j l. ap (λ (xs : List fat.Monitor). (get_or xs j unbound).object) same ∙ object-with_owner w.fats m (Some t) n j bound)))

        shown_then : shown (with_go w k (fats_changed w g (place_at w k) did)) ≡ after
        shown_then =
            shown_turned w sound k t berth g (place_at w k) did after refl (sym (moment-after_grant w.fats m t p WaitSet))
            (λ v. at_thread v (cases_eq v.0 t.0))
            (monitors_turned w sound o m shows k g (place_at w k) did (with_holds w m (Some t) n)
            (ap (λ (xs : List fat.Monitor). get_or xs m unbound) same ∙ get_or-set_same w.fats.monitors m (with_holds w m (Some t) n) unbound bound)
            (λ j ne. ap (λ (xs : List fat.Monitor). get_or xs j unbound) same ∙ get_or-set_other w.fats.monitors m j (with_holds w m (Some t) n) unbound ne))

    end_run : (owner : Option ThreadId) → (monitor_at w.fats m).owner ≡ owner
        → EndRun x w t (answers (after_removal w.fats t y (Waiting m n d)) answer.Quiet (granted_by_removal w.fats t (Waiting m n d)) None)
    end_run (Some owner) own = subst (EndRun x w t) (sym goes) (behind_run owner)
      where
        goes : answers (after_removal w.fats t y (Waiting m n d)) answer.Quiet (granted_by_removal w.fats t (Waiting m n d)) None ≡ answers (after_sending_back w.fats t m (Back m n y) (Some owner)) answer.Quiet None None
        goes = rw own refl
    end_run None free = subst (EndRun x w t) (sym goes) (served_run free)
      where
        goes : answers (after_removal w.fats t y (Waiting m n d)) answer.Quiet (granted_by_removal w.fats t (Waiting m n d)) None ≡ answers (after_grant w.fats m t (Back m n y) WaitSet) answer.Quiet (Some t) None
        goes = rw free refl

  -- by the post of t
  expire_at : (p : Option Post) → post_of w.fats t ≡ p → EndRun time_over w t (outcome_of w.fats t action.Expire)
  expire_at None e = rw e refl
  expire_at (Some Out) e = rw e refl
  expire_at (Some (Entering m)) e = rw e refl
  expire_at (Some (Waiting m n None)) e = rw e refl
  expire_at (Some (Waiting m n (Some d))) e = by_time (nat_lt w.fats.moment d) refl
    where
      by_time : (early : Bool) → nat_lt w.fats.moment d ≡ early → EndRun time_over w t (outcome_of w.fats t action.Expire)
      by_time true early = rw (e, early) refl
      by_time false due =
          rw (e, due) (end_run time_over why.Elapsed m n (Some d) e
          (flag_at w.fats t, (monitor_at w.fats m).object, n, d, waits m n (Some d) e, ltb-false w.fats.moment d due, refl) (monitor_at w.fats m).owner refl)
  expire_at (Some (Back m n y)) e = rw e refl
  expire_at (Some (Granted r)) e = rw e refl

  wake_at : (p : Option Post) → post_of w.fats t ≡ p → EndRun wake_up w t (outcome_of w.fats t action.Spurious)
  wake_at None e = rw e refl
  wake_at (Some Out) e = rw e refl
  wake_at (Some (Entering m)) e = rw e refl
  wake_at (Some (Waiting m n d)) e =
      rw e (end_run wake_up why.Spurious m n d e
      (flag_at w.fats t, (monitor_at w.fats m).object, n, d, waits m n d e, refl) (monitor_at w.fats m).owner refl)
  wake_at (Some (Back m n y)) e = rw e refl
  wake_at (Some (Granted r)) e = rw e refl

-- The end of a wait by itself is a run of the machine.
abbrev pub WaitEndRun : WaitEnd → WorldState → ThreadId → Option ℕ → Type 0
WaitEndRun x w t o = Run (shown w) (moves_of (after_wait_end x w t o).answer) (shown (after_wait_end x w t o).after)

pub expire_run : (w : WorldState) → IsSound w → (t : ThreadId) → WaitEndRun time_over w t (berth_of w.berths t)
expire_run w sound t = by_berth (berth_of w.berths t) refl
  where
    by_berth : (s : Option ℕ) → berth_of w.berths t ≡ s → WaitEndRun time_over w t s
    by_berth None e = refl
    by_berth (Some k) e = expire_at w sound t k e (post_of w.fats t) refl

pub wake_run : (w : WorldState) → IsSound w → (t : ThreadId) → WaitEndRun wake_up w t (berth_of w.berths t)
wake_run w sound t = by_berth (berth_of w.berths t) refl
  where
    by_berth : (s : Option ℕ) → berth_of w.berths t ≡ s → WaitEndRun wake_up w t s
    by_berth None e = refl
    by_berth (Some k) e = wake_at w sound t k e (post_of w.fats t) refl

-- A tick is a run of the machine: the moment alone changes.
pub tick_run : (w : WorldState) (now : ℕ) → Run (shown w) (moves_of (after_tick w now).answer) (shown (after_tick w now).after)
tick_run w now = cond_both (nat_lt now w.fats.moment) _ _ (λ (x : Stepped). Run (shown w) (moves_of x.answer) (shown x.after)) (λ back. refl) (λ on. goes (ltb-false now w.fats.moment on))
  where
    thread_kept : (v : ThreadId) (o : Option ℕ) → thread_of (record w { fats = with_moment w.fats now }) v o ≡ thread_of w v o
    thread_kept v None = refl
    thread_kept v (Some j) =
        ap (λ (x : Doing). Some (does (flag_at w.fats v) x)) (act_same w.fats (with_moment w.fats now) (post_at w.fats v) (place_at w j) refl)

    monitor_kept : (l : Lock) → monitor_of (record w { fats = with_moment w.fats now }) l ≡ monitor_of w l
    monitor_kept Free = refl
    monitor_kept (Thin i n) = refl
    monitor_kept (Fat j) = refl

    shown_then : shown (record w { fats = with_moment w.fats now }) ≡ record (shown w) { moment = now }
    shown_then =
        let threads : (shown (record w { fats = with_moment w.fats now })).thread ≡ (shown w).thread = fun_ext (λ v. thread_kept v (berth_of w.berths v)) in
        let monitors : (shown (record w { fats = with_moment w.fats now })).monitor ≡ (shown w).monitor = fun_ext (λ o. monitor_kept (lock_at w o.0)) in
        λ i. record { thread = threads i; objects = length w.words; monitor = monitors i; moment = now }

    goes : w.fats.moment ≤ now → Run (shown w) (move.Time now ∷ []) (shown (record w { fats = with_moment w.fats now }))
    goes on = (shown (record w { fats = with_moment w.fats now }), (on, shown_then), refl)
