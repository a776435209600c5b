-- What is shown after a fat action, by what it changes of its monitor and of the posts of threads.
use Rattle.std.specs.Prelude.{◌≡◌, ◌≢◌, ◌⊎◌, ℕ, ◌<◌, Bool, true, false, if◌then◌else◌, ◌==◌, List, get_or, [], ◌∷◌, length, Option, Some, None, IsSome}
use Rattle.std.proofs.Common.{refl, ap, sym, ◌∙◌, subst, inl, inr, get_or-set_same, get_or-set_other}
use Rattle.std.proofs.lemmas.Bool.{cases_eq, eq-eqb, eqb-false, ne_eqb}
use Rattle.std.proofs.lemmas.Option.{same_Some}
use Rattle.lock_word.specs.declared.ThreadId.{ThreadId}
use Rattle.lock_word.specs.declared.ObjectId.{ObjectId}
use Rattle.lock_word.specs.declared.Lock.{Lock}
use Rattle.lock_word.specs.declared.Lock.TheVariants.{Free, Thin, Fat}
use Rattle.thread_index.specs.Indices.{berth_of}
use Rattle.wait_lines.specs.declared.Role.TheVariants.{Entry}
use Rattle.fat_monitor.specs.declared.monitors.Monitor as fat
use Rattle.fat_monitor.specs.declared.actions.Reply.{Reply}
use Rattle.fat_monitor.specs.declared.actions.Action.{Action}
use Rattle.fat_monitor.specs.declared.actions.Answer.TheVariants as answer
use Rattle.fat_monitor.specs.declared.actions.Why.{Why}
use Rattle.fat_monitor.specs.declared.actions.Why.TheVariants as why
use Rattle.fat_monitor.specs.declared.actions.Post.{Post}
use Rattle.fat_monitor.specs.declared.actions.Post.TheVariants.{Out, Entering, Waiting, Back, Granted}
use Rattle.fat_monitor.specs.FatState.{FatState, monitor_at, unbound, is_owned_by, IsHeld, post_of, post_at, flag_at, first_of, with_owner, with_flag}
use Rattle.fat_monitor.specs.Acting.{Outcome, outcome_of, replies, holds_granted, reply_granted, reply_back}
use Rattle.fat_monitor.proofs.Effects.{first_entering}
use Rattle.fat_monitor.proofs.Flags.{settled_flag, flag-with_flag_same, flag-with_flag_other}
use Rattle.fast_path.specs.declared.calls.Call.{Call}
use Rattle.fast_path.specs.declared.calls.Call.TheVariants as call
use Rattle.step_core.specs.declared.machine.Doing.{Doing}
use Rattle.step_core.specs.declared.machine.Doing.TheVariants as doing
use Rattle.step_core.specs.declared.places.Place.{Place}
use Rattle.step_core.specs.declared.places.Place.TheVariants.{Idle}
use Rattle.step_core.specs.declared.machine.Move.TheVariants as move
use Rattle.step_core.specs.declared.steps.Atomic.TheVariants as atomic
use Rattle.step_core.specs.declared.steps.Did.{Did}
use Rattle.step_core.specs.Machine.{State, Run, Steps, free, held, with_monitor, Is, now_is, OwnedBy}
use Rattle.step_core.specs.World.{WorldState, place_at, lock_at}
use Rattle.step_core.specs.Shown.{shown, monitor_of, doing_of, act_of, thread_of}
use Rattle.step_core.specs.Sound.{IsSound, MayShow}
use Rattle.step_core.specs.Did.{move_and_return, move_for, granting}
use Rattle.step_core.specs.Go.{with_go, fats_changed, after_act, after_told}
use Rattle.step_core.specs.Step.{moves_made}
use Rattle.step_core.proofs.Facts.Moves.{grant_lock, grant_relock}
use Rattle.step_core.proofs.Facts.Moves.{one_object}
use Rattle.step_core.proofs.Facts.ShownStates.{does, thread_in, acts_alike}
use Rattle.step_core.proofs.Facts.OneFatAction.{same_thread, one_thread, seen, post_is, own_thread, kept_thread, given_thread, shown_turned}
use Rattle.step_core.proofs.Facts.OneThread.{stands_at, act_out, shown_stays}

-- the object of a monitor stays where its owner changes
pub object-with_owner : (f : FatState) (m : ℕ) (x : Option ThreadId) (n j : ℕ) → m < length f.monitors → (monitor_at (with_owner f m x n) j).object ≡ (monitor_at f j).object
object-with_owner f m x n j h = by_number (cases_eq j m)
  where
    b : fat.Monitor
    b = record (monitor_at f m) { owner = x; holds = n }

    by_number : (j ≡ m) ⊎ (j ≡ m → ⊥) → (monitor_at (with_owner f m x n) j).object ≡ (monitor_at f j).object
    by_number (inl e) = rw (e, get_or-set_same f.monitors m b unbound h) refl
    by_number (inr ne) = rw (get_or-set_other f.monitors m j b unbound ne) refl

-- a thread does the same with the same monitors
pub act_same : (f g : FatState) (q : Post) (p : Place) → g.monitors ≡ f.monitors → act_of g q p ≡ act_of f q p
act_same f g Out p e = refl
act_same f g (Entering m) p e = ap (λ (xs : List fat.Monitor). doing.Wants (call.Enter (get_or xs m unbound).object)) e
act_same f g (Waiting m n d) p e = ap (λ (xs : List fat.Monitor). doing.Waits (get_or xs m unbound).object n d) e
act_same f g (Back m n y) p e = ap (λ (xs : List fat.Monitor). doing.Back (get_or xs m unbound).object n y) e
act_same f g (Granted r) p e = refl

-- the monitors that are shown where none changes
pub monitors_kept : (w : WorldState) (k : ℕ) (g : FatState) (p : Place) (did : Did) → g.monitors ≡ w.fats.monitors
    → (q : ObjectId) → monitor_of (with_go w k (fats_changed w g p did)) (lock_at w q.0) ≡ monitor_of w (lock_at w q.0)
monitors_kept w k g p did same q = at_lock (lock_at w q.0)
  where
    at_lock : (l : Lock) → monitor_of (with_go w k (fats_changed w g p did)) l ≡ monitor_of w l
    at_lock Free = refl
    at_lock (Thin i n) = refl
    at_lock (Fat j) = ap (λ (xs : List fat.Monitor). seen (get_or xs j unbound)) same

-- the monitor with this owner and these holds
abbrev pub with_holds : WorldState → ℕ → Option ThreadId → ℕ → fat.Monitor
with_holds w m x n = record (monitor_at w.fats m) { owner = x; holds = n }

-- a free monitor goes to a thread that comes back from a wait, for each reason
grant_back : (s : State) (u : ThreadId) (flag : Bool) (o : ObjectId) (m n : ℕ) (y : Why) → Is s u flag (doing.Back o n y) → s.monitor o ≡ free
    → Steps s (granting u (Granted (reply_back y))) (with_monitor (now_is s u (settled_flag (Back m n y) flag) (doing.Has (reply_back y))) o (held u n))
grant_back s u flag o m n why.Notified is unowned = grant_relock s u flag o n why.Notified is unowned
grant_back s u flag o m n why.Interrupted is unowned = grant_relock s u flag o n why.Interrupted is unowned
grant_back s u flag o m n why.Elapsed is unowned = grant_relock s u flag o n why.Elapsed is unowned
grant_back s u flag o m n why.Spurious is unowned = grant_relock s u flag o n why.Spurious is unowned

-- an object that shows a fat monitor
module _ (w : WorldState) (sound : IsSound w) (o : ObjectId) (m : ℕ) (shows : lock_at w o.0 ≡ Fat m) where
  pub here : (m < length w.fats.monitors) × ((monitor_at w.fats m).object.0 ≡ o.0)
  here = rw shows at (stands_at w sound o.0)

  pub object_here : (monitor_at w.fats m).object ≡ o
  object_here = one_object (monitor_at w.fats m).object o here.1

  -- the monitors that are shown where one fat monitor changes
  pub monitors_turned : (k : ℕ) (g : FatState) (p : Place) (did : Did) (b : fat.Monitor) → monitor_at g m ≡ b → ((j : ℕ) → j ≢ m → monitor_at g j ≡ monitor_at w.fats j)
      → (q : ObjectId) → monitor_of (with_go w k (fats_changed w g p did)) (lock_at w q.0) ≡ (if q.0 == o.0 then seen b else monitor_of w (lock_at w q.0))
  monitors_turned k g p did b at_monitor elsewhere q = by_object (cases_eq q.0 o.0)
    where
      at_lock : (q.0 ≡ o.0 → ⊥) → (l : Lock) → MayShow w q.0 l → monitor_of (with_go w k (fats_changed w g p did)) l ≡ monitor_of w l
      at_lock ne Free st = refl
      at_lock ne (Thin i n) st = refl
      at_lock ne (Fat j) st = ap seen (elsewhere j (λ e. ne (sym st.1 ∙ rw e here.1)))

      by_object : (q.0 ≡ o.0) ⊎ (q.0 ≡ o.0 → ⊥) → monitor_of (with_go w k (fats_changed w g p did)) (lock_at w q.0) ≡ (if q.0 == o.0 then seen b else monitor_of w (lock_at w q.0))
      by_object (inl same) = rw (eq-eqb q.0 o.0 same, same, shows) (ap seen at_monitor)
      by_object (inr ne) = rw (ne_eqb q.0 o.0 ne) (at_lock ne (lock_at w q.0) (stands_at w sound q.0))

-- the action of a call, by what it tells
module _ (w : WorldState) (k : ℕ) (t : ThreadId) (c : Call) (a : Action) where
  abbrev pub Goal : Type 0
  Goal = Run (shown w) (moves_made (after_act w t c a).did.moves) (shown (with_go w k (after_act w t c a)))

  pub by_outcome : (x : Outcome) → outcome_of w.fats t a ≡ x
      → Run (shown w) (moves_made (after_told w t c a x.answer x.after).did.moves) (shown (with_go w k (after_told w t c a x.answer x.after)))
      → Goal
  by_outcome x e run =
      subst (λ (y : Outcome). Run (shown w) (moves_made (after_told w t c a y.answer y.after).did.moves) (shown (with_go w k (after_told w t c a y.answer y.after))))
      (sym e) run

module _ (w : WorldState) (sound : IsSound w) (k : ℕ) (t : ThreadId) (berth : berth_of w.berths t ≡ Some k) (out : post_of w.fats t ≡ Some Out) where
  -- what is shown where nothing changes but the flag of t, whose call is over
  pub shown_flagged : (flag : Bool) (did : Did) → shown (with_go w k (fats_changed w (with_flag w.fats t flag) Idle did)) ≡ now_is (shown w) t flag doing.Idle
  shown_flagged flag did =
      shown_turned w sound k t berth g Idle did (now_is (shown w) t flag doing.Idle) refl refl
      (λ v. at_thread v (cases_eq v.0 t.0)) (monitors_kept w k g Idle did refl)
    where
      g : FatState
      g = with_flag w.fats t flag

      at_thread : (v : ThreadId) → (v.0 ≡ t.0) ⊎ (v.0 ≡ t.0 → ⊥)
          → thread_of (with_go w k (fats_changed w g Idle did)) v (berth_of w.berths v) ≡ (now_is (shown w) t flag doing.Idle).thread v
      at_thread v (inl same) =
          rw (eq-eqb v.0 t.0 same) (own_thread w sound k t berth g Idle did (does flag doing.Idle)
          (rw (flag-with_flag_same w.fats t flag) (ap (does flag) (act_out g t Idle out))) v same)
      at_thread v (inr ne) =
          rw (ne_eqb v.0 t.0 ne) (kept_thread w sound k t berth g Idle did v ne
          (acts_alike w.fats g v sound.fats (flag-with_flag_other w.fats t v flag (λ e. ne (ap (λ (x : ThreadId). x.0) e))) refl (λ j h. refl)))

  -- a reply that leaves the fat state as it is
  pub keeps_all : (c : Call) (a : Action) (r : Reply) → outcome_of w.fats t a ≡ replies w.fats r
      → Run (shown w) (move_for c r None t ∷ move.Return t r ∷ []) (now_is (shown w) t (flag_at w.fats t) doing.Idle) → Goal w k t c a
  keeps_all c a r e run =
      by_outcome w k t c a (replies w.fats r) e
      (subst (λ (s : State). Run (shown w) (move_for c r None t ∷ move.Return t r ∷ []) s)
      (sym (shown_stays w sound k t berth Idle (move_and_return (atomic.Acted a (answer.Reply r)) (move_for c r None t) t r) out)) run)

  module _ (c : Call) (o : ObjectId) (m : ℕ) (is : Is (shown w) t (flag_at w.fats t) (doing.Wants c)) (shows : lock_at w o.0 ≡ Fat m) where
    -- where the owner and the holds of this monitor change, and no post of another thread
    pub shown_owned : (p : Place) (did : Did) (x : Option ThreadId) (n : ℕ)
        → shown (with_go w k (fats_changed w (with_owner w.fats m x n) p did)) ≡ with_monitor (now_is (shown w) t (flag_at w.fats t) (doing_of p)) o (record { owner = x; count = n })
    shown_owned p did x n =
        shown_turned w sound k t berth (with_owner w.fats m x n) p did (with_monitor (now_is (shown w) t (flag_at w.fats t) (doing_of p)) o (record { owner = x; count = n })) refl refl
        (λ v. at_thread v (cases_eq v.0 t.0))
        (monitors_turned w sound o m shows k (with_owner w.fats m x n) p did (with_holds w m x n) (get_or-set_same w.fats.monitors m (with_holds w m x n) unbound (here w sound o m shows).0)
        (λ j ne. get_or-set_other w.fats.monitors m j (with_holds w m x n) unbound ne))
      where
        at_thread : (v : ThreadId) → (v.0 ≡ t.0) ⊎ (v.0 ≡ t.0 → ⊥)
            → thread_of (with_go w k (fats_changed w (with_owner w.fats m x n) p did)) v (berth_of w.berths v) ≡ (now_is (shown w) t (flag_at w.fats t) (doing_of p)).thread v
        at_thread v (inl same) =
            rw (eq-eqb v.0 t.0 same) (own_thread w sound k t berth (with_owner w.fats m x n) p did (does (flag_at w.fats t) (doing_of p)) (ap (does (flag_at w.fats t)) (act_out (with_owner w.fats m x n) t p out)) v same)
        at_thread v (inr ne) =
            rw (ne_eqb v.0 t.0 ne) (kept_thread w sound k t berth (with_owner w.fats m x n) p did v ne
            (acts_alike w.fats (with_owner w.fats m x n) v sound.fats refl refl (λ j h. object-with_owner w.fats m x n j (here w sound o m shows).0)))

    -- a reply that changes the owner and the holds
    pub owner_changes : (a : Action) (r : Reply) (x : Option ThreadId) (n : ℕ) → outcome_of w.fats t a ≡ replies (with_owner w.fats m x n) r
        → Run (shown w) (move_for c r None t ∷ move.Return t r ∷ []) (with_monitor (now_is (shown w) t (flag_at w.fats t) doing.Idle) o (record { owner = x; count = n })) → Goal w k t c a
    owner_changes a r x n e run =
        by_outcome w k t c a (replies (with_owner w.fats m x n) r) e
        (subst (λ (s : State). Run (shown w) (move_for c r None t ∷ move.Return t r ∷ []) s)
        (sym (shown_owned Idle (move_and_return (atomic.Acted a (answer.Reply r)) (move_for c r None t) t r) x n)) run)

    pub owned_by_me : (monitor_at w.fats m).owner ≡ Some t → OwnedBy (shown w) o t
    owned_by_me e = rw shows e

    pub not_mine : (own : Option ThreadId) → (monitor_at w.fats m).owner ≡ own → is_owned_by own t ≡ false → OwnedBy (shown w) o t → ⊥
    not_mine None own other h = let e : (monitor_at w.fats m).owner ≡ Some t = rw shows at h in absurd (cc)
    not_mine (Some u) own other h =
        let e : (monitor_at w.fats m).owner ≡ Some t = rw shows at h in
        eqb-false u.0 t.0 other (ap (λ (x : ThreadId). x.0) (same_Some u t (sym own ∙ e)))

    pub mine : (own : Option ThreadId) → (monitor_at w.fats m).owner ≡ own → is_owned_by own t ≡ true → (monitor_at w.fats m).owner ≡ Some t
    mine None own same = absurd (cc)
    mine (Some u) own same = own ∙ ap (λ (x : ThreadId). Some x) (same_thread u t same)

    -- Where this monitor goes to u: t and u have these flags then, and every other thread its own.
    module _ (u : ThreadId) (g : FatState) (p : Place) (did : Did) (mine theirs : Bool) (d : Doing) (r : Reply) (n : ℕ)
        (apart : u.0 ≡ t.0 → ⊥) (live : IsSome (berth_of w.berths u))
        (own : thread_in g t p ≡ does mine d)
        (their_post : post_at g u ≡ Granted r) (their_flag : flag_at g u ≡ theirs)
        (posts : (v : ThreadId) → (v.0 ≡ t.0 → ⊥) → (v.0 ≡ u.0 → ⊥) → post_at g v ≡ post_at w.fats v)
        (flags : (v : ThreadId) → (v.0 ≡ t.0 → ⊥) → (v.0 ≡ u.0 → ⊥) → flag_at g v ≡ flag_at w.fats v)
        (moment : g.moment ≡ w.fats.moment)
        (same : g.monitors ≡ (with_owner w.fats m (Some u) n).monitors) where
      pub kept_objects : (j : ℕ) → j < length w.fats.monitors → (monitor_at g j).object ≡ (monitor_at w.fats j).object
      kept_objects j h = ap (λ (xs : List fat.Monitor). (get_or xs j unbound).object) same ∙ object-with_owner w.fats m (Some u) n j (here w sound o m shows).0

      pub their_thread : (v : ThreadId) → v.0 ≡ u.0 → thread_of (with_go w k (fats_changed w g p did)) v (berth_of w.berths v) ≡ Some (does theirs (doing.Has r))
      their_thread v e =
          rw (one_thread v u e) (given_thread w sound k t berth g p did u (does theirs (doing.Has r)) apart live (λ q. rw (their_flag, their_post) refl))

      pub other_thread : (v : ThreadId) → (v.0 ≡ t.0 → ⊥) → (v.0 ≡ u.0 → ⊥) → thread_of (with_go w k (fats_changed w g p did)) v (berth_of w.berths v) ≡ (shown w).thread v
      other_thread v ne nu = kept_thread w sound k t berth g p did v ne (acts_alike w.fats g v sound.fats (flags v ne nu) (posts v ne nu) kept_objects)

      pub handed_monitors : (q : ObjectId) → monitor_of (with_go w k (fats_changed w g p did)) (lock_at w q.0) ≡ (if q.0 == o.0 then held u n else monitor_of w (lock_at w q.0))
      handed_monitors = monitors_turned w sound o m shows k g p did (with_holds w m (Some u) n)
          (ap (λ (xs : List fat.Monitor). get_or xs m unbound) same ∙ get_or-set_same w.fats.monitors m (with_holds w m (Some u) n) unbound (here w sound o m shows).0)
          (λ j ne. ap (λ (xs : List fat.Monitor). get_or xs j unbound) same ∙ get_or-set_other w.fats.monitors m j (with_holds w m (Some u) n) unbound ne)

      -- what is shown then, by either thread first
      pub shown_handed : shown (with_go w k (fats_changed w g p did)) ≡ with_monitor (now_is (now_is (shown w) t mine d) u theirs (doing.Has r)) o (held u n)
      shown_handed = shown_turned w sound k t berth g p did (with_monitor (now_is (now_is (shown w) t mine d) u theirs (doing.Has r)) o (held u n)) refl (sym moment)
          (λ v. at_thread v (cases_eq v.0 t.0) (cases_eq v.0 u.0)) handed_monitors
        where
          at_thread : (v : ThreadId) → (v.0 ≡ t.0) ⊎ (v.0 ≡ t.0 → ⊥) → (v.0 ≡ u.0) ⊎ (v.0 ≡ u.0 → ⊥)
              → thread_of (with_go w k (fats_changed w g p did)) v (berth_of w.berths v) ≡ (now_is (now_is (shown w) t mine d) u theirs (doing.Has r)).thread v
          at_thread v x (inl e) = rw (eq-eqb v.0 u.0 e) (their_thread v e)
          at_thread v (inl e) (inr nu) = rw (ne_eqb v.0 u.0 nu, eq-eqb v.0 t.0 e) (own_thread w sound k t berth g p did (does mine d) own v e)
          at_thread v (inr ne) (inr nu) = rw (ne_eqb v.0 u.0 nu, ne_eqb v.0 t.0 ne) (other_thread v ne nu)

      pub shown_handed_over : shown (with_go w k (fats_changed w g p did)) ≡ with_monitor (now_is (now_is (shown w) u theirs (doing.Has r)) t mine d) o (held u n)
      shown_handed_over = shown_turned w sound k t berth g p did (with_monitor (now_is (now_is (shown w) u theirs (doing.Has r)) t mine d) o (held u n)) refl (sym moment)
          (λ v. at_thread v (cases_eq v.0 t.0) (cases_eq v.0 u.0)) handed_monitors
        where
          at_thread : (v : ThreadId) → (v.0 ≡ t.0) ⊎ (v.0 ≡ t.0 → ⊥) → (v.0 ≡ u.0) ⊎ (v.0 ≡ u.0 → ⊥)
              → thread_of (with_go w k (fats_changed w g p did)) v (berth_of w.berths v) ≡ (now_is (now_is (shown w) u theirs (doing.Has r)) t mine d).thread v
          at_thread v (inl e) x = rw (eq-eqb v.0 t.0 e) (own_thread w sound k t berth g p did (does mine d) own v e)
          at_thread v (inr ne) (inl e) = rw (ne_eqb v.0 t.0 ne, eq-eqb v.0 u.0 e) (their_thread v e)
          at_thread v (inr ne) (inr nu) = rw (ne_eqb v.0 t.0 ne, ne_eqb v.0 u.0 nu) (other_thread v ne nu)

    -- what is known of the first of the entry line: its post, what it is granted, and the move that grants it
    pub record Granting (u : ThreadId) : Type 0 where
      pub post : Post
      pub is_at : post_of w.fats u ≡ Some post
      pub act : Doing
      pub acts : (q : Place) → act_of w.fats post q ≡ act
      pub grants : (s : State) (flag : Bool) → Is s u flag act → s.monitor o ≡ free
          → Steps s (granting u (Granted (reply_granted post))) (with_monitor (now_is s u (settled_flag post flag) (doing.Has (reply_granted post))) o (held u (holds_granted post)))
      pub apart : u.0 ≡ t.0 → ⊥
      pub live : IsSome (berth_of w.berths u)

    pub stands_apart : (u : ThreadId) (q : Post) → post_of w.fats u ≡ Some q → (q ≡ Out → ⊥) → u.0 ≡ t.0 → ⊥
    stands_apart u q e ne same = ne (same_Some q Out (sym e ∙ ap (λ (n : ℕ). post_of w.fats (record { 0 = n })) same ∙ out))

    pub attached_live : (u : ThreadId) (q : Post) → post_of w.fats u ≡ Some q → IsSome (berth_of w.berths u)
    attached_live u q e = sound.live u (rw e refl)

    pub first_granting : (u : ThreadId) → first_of w.fats m Entry ≡ Some u → Granting u
    first_granting u first = by_post (first_entering w.fats m u sound.fats first)
      where
        by_why : (n : ℕ) (y : Why) → post_of w.fats u ≡ Some (Back m n y) → Granting u
        by_why n y e = record {
          post = Back m n y;
          is_at = e;
          act = doing.Back o n y;
          acts = λ q. ap (λ (x : ObjectId). doing.Back x n y) (object_here w sound o m shows);
          grants = λ s flag is fr. grant_back s u flag o m n y is fr;
          apart = stands_apart u (Back m n y) e (λ h. cc);
          live = attached_live u (Back m n y) e;
        }

        by_post : (post_of w.fats u ≡ Some (Entering m)) ⊎ ((n : ℕ) × (y : Why) × (post_of w.fats u ≡ Some (Back m n y)) × IsHeld n) → Granting u
        by_post (inl e) = record {
          post = Entering m;
          is_at = e;
          act = doing.Wants (call.Enter o);
          acts = λ q. ap (λ (x : ObjectId). doing.Wants (call.Enter x)) (object_here w sound o m shows);
          grants = λ s flag is fr. grant_lock s u flag o is fr;
          apart = stands_apart u (Entering m) e (λ h. cc);
          live = attached_live u (Entering m) e;
        }
        by_post (inr (n, y, e, held)) = by_why n y e

    -- what the first of the entry line shows
    pub shows_wanting : (u : ThreadId) (x : Granting u) → Is (shown w) u (flag_at w.fats u) x.act
    shows_wanting u x = by_one (berth_of w.berths u) x.live
      where
        by_one : (y : Option ℕ) → IsSome y → thread_of w u y ≡ Some (does (flag_at w.fats u) x.act)
        by_one None h = absurd (cc)
        by_one (Some j) h =
            ap (λ (d : Doing). Some (does (flag_at w.fats u) d))
            (ap (λ (q : Post). act_of w.fats q (place_at w j)) (post_is w.fats u x.post x.is_at) ∙ x.acts (place_at w j))
