-- The same for notifications, interrupts, questions, refusals, ends and returns.
use Rattle.std.specs.Prelude.{◌≡◌, ℕ, Bool, true, false, not, ◌&&◌, ◌||◌, if◌then◌else◌, ◌==◌, List, [], ◌∷◌, zero, suc, get_or, Option, Some, None}
use Rattle.std.specs.Option.{option_map}
use Rattle.std.specs.FinMap as map
use Rattle.std.specs.FinMap.{get-entries, entries_sorted}
use Rattle.std.proofs.Common.{refl, ap, sym, ◌∙◌, subst}
use Rattle.std.proofs.lemmas.Bool.{and_parts, eqb-true, eq-eqb}
use Rattle.std.proofs.lemmas.Option.{same_Some}
use Rattle.lock_word.specs.declared.ThreadId.{ThreadId}
use Rattle.lock_word.specs.declared.ObjectId.{ObjectId}
use Rattle.fat_monitor.specs.declared.actions.Reply.TheVariants as reply
use Rattle.fat_monitor.specs.declared.actions.Why.TheVariants as why
use Rattle.fast_path.specs.declared.calls.Call.{Call}
use Rattle.fast_path.specs.declared.calls.Call.TheVariants as call
use Rattle.step_core.specs.declared.machine.Doing.{Doing}
use Rattle.step_core.specs.declared.machine.Doing.TheVariants.{Idle, Wants, Waits, Back, Has}
use Rattle.step_core.specs.declared.machine.Move.TheVariants as move
use Rattle.fat_monitor.specs.Replies.{yes_or_no}
use Rattle.step_core.specs.Machine.{State, Thread, Steps, Is, Calls, now_is, with_reply, OwnedBy, NobodyWaits, IsAnswer, waits_on, after_interrupt}
use Rattle.step_core.proofs.Facts.Moves.{one_object}
use Rattle.jls_check.specs.declared.threads.Live.{Live}
use Rattle.jls_check.specs.declared.threads.ThreadRecord.{ThreadRecord}
use Rattle.jls_check.specs.declared.monitors.ObjectRecord.{ObjectRecord}
use Rattle.jls_check.specs.LiveThreads.{live_in, live_of, does_wait, some_waits}
use Rattle.jls_check.specs.Monitors.{untouched, is_owned_by, owns_one}
use Rattle.jls_check.specs.MachineState.{MachineState, state, put, put_reply, held_at, thread_of, owns, IsSound}
use Rattle.jls_check.specs.Taking.{wanted, notify_from, notify_at, notify_for, notify, notify_nobody_for, notify_nobody, notify_all_for, notify_all, interrupt_at, interrupt_for, interrupt, ask_at, ask_for, ask, end_thread_for, end_thread, all_left}
use Rattle.jls_check.proofs.Counts.{none_passes, one_passes}
use Rattle.jls_check.proofs.States.{state-put}
use Rattle.jls_check.proofs.AllBack.{state-all_left}
use Rattle.jls_check.proofs.Guards.{guarded, guarded_not, refused, refused_not, both_true, flipped, never, owner_is, owner_yes}
use Rattle.jls_check.proofs.Judging.{live, live_is, is_live, calls, wanted_as, answer}

guarded_by : {A : Type 0} (b : Bool) (x : Option A) (w : A) → (if b then x else None) ≡ Some w → (b ≡ true) × (x ≡ Some w)
guarded_by true x w e = (refl, e)
guarded_by false x w e = absurd (cc)

refused_by : {A : Type 0} (b : Bool) (x : Option A) → (if b then x else None) ≡ None → b ≡ true → x ≡ None
refused_by true x e h = e
refused_by false x e h = absurd (cc)

-- ---- who waits

waits_here : (p o : ObjectId) → p.0 ≡ o.0 → p ≡ o
waits_here p o e = one_object p o e

module _ (v : MachineState) where
  nobody : (o : ObjectId) → some_waits v.threads o ≡ false → NobodyWaits (state v) o
  nobody o none u flag n d h = by (map.get v.threads u.0) refl (live_is v u flag (Waits o n d) h)
    where
      by : (y : Option ThreadRecord) → map.get v.threads u.0 ≡ y → live_in y ≡ Some (live flag (Waits o n d)) → ⊥
      by None k e = cc
      by (Some r) k e =
          let out = none_passes (does_wait o) u.0 (map.entries v.threads) r none (sym (get-entries v.threads u.0) ∙ k) in
          let there : does_wait o r ≡ true = ap (λ (x : Live). waits_on x.act o) (same_Some r.live (live flag (Waits o n d)) e) ∙ eq-eqb o.0 o.0 refl in
          never (does_wait o r) there out

  somebody : (o : ObjectId) → some_waits v.threads o ≡ true → NobodyWaits (state v) o → ⊥
  somebody o some none =
      let r = one_passes (does_wait o) (map.entries v.threads) (entries_sorted v.threads) some in
      by r.0 r.1.live.flag r.1.live.act (ap live_in (get-entries v.threads r.0 ∙ r.2)) r.3
    where
      by : (q : ℕ) (flag : Bool) (d : Doing) → live_in (map.get v.threads q) ≡ Some (live flag d) → waits_on d o ≡ true → ⊥
      by q flag (Waits p n d) h e =
          let u : ThreadId = record { 0 = q } in
          none u flag n d (subst (λ (x : ObjectId). Is (state v) u flag (Waits x n d)) (waits_here p o (eqb-true p.0 o.0 e)) (is_live v u (live flag (Waits p n d)) h))
      by q flag Idle h e = cc
      by q flag (Wants c) h e = cc
      by q flag (Back p n w) h e = cc
      by q flag (Has r) h e = cc

module _ (v : MachineState) (t : ThreadId) where
  -- ---- notifications

  pub notify_right : (u : ThreadId) (w : MachineState) → notify v t u ≡ Some w → Steps (state v) (move.Notify t (Some u)) (state w)
  notify_right u w e = by (wanted v t) refl e
    where
      on : (flag : Bool) (o : ObjectId) → Calls (state v) t flag (call.Notify o) → OwnedBy (state v) o t
          → (other : Bool) (d : Doing) → live_of v.threads u ≡ Some (live other d) → notify_from v t flag o u other d ≡ Some w → Steps (state v) (move.Notify t (Some u)) (state w)
      on flag o h own other (Waits p n d) k e =
          let g = guarded (p.0 == o.0) (put (put_reply v t flag reply.Notified) u other (Back p n why.Notified)) w e in
          let same = waits_here p o (eqb-true p.0 o.0 g.0) in (
            flag,
            o,
            h,
            own,
            other,
            n,
            d,
            subst (λ (q : ObjectId). Is (state v) u other (Waits q n d)) same (is_live v u (live other (Waits p n d)) k),
            sym (ap state g.1) ∙ state-put (put_reply v t flag reply.Notified) u other (Back p n why.Notified)
                ∙ ap (λ (s : State). now_is s u other (Back p n why.Notified)) (state-put v t flag (Has reply.Notified))
                ∙ ap (λ (q : ObjectId). now_is (with_reply (state v) t flag reply.Notified) u other (Back q n why.Notified)) same,
          )
      on flag o h own other Idle k e = absurd (cc)
      on flag o h own other (Wants c) k e = absurd (cc)
      on flag o h own other (Back p n y) k e = absurd (cc)
      on flag o h own other (Has r) k e = absurd (cc)

      at : (flag : Bool) (o : ObjectId) → Calls (state v) t flag (call.Notify o) → OwnedBy (state v) o t
          → (q : Option Live) → live_of v.threads u ≡ q → notify_at v t flag o u q ≡ Some w → Steps (state v) (move.Notify t (Some u)) (state w)
      at flag o h own None k e = absurd (cc)
      at flag o h own (Some x) k e = on flag o h own x.flag x.act k e

      by : (q : Option (Bool × Call)) → wanted v t ≡ q → notify_for v t u q ≡ Some w → Steps (state v) (move.Notify t (Some u)) (state w)
      by None h e = absurd (cc)
      by (Some (flag, call.Notify o)) h e =
          let g = guarded_by (owns v t o) (notify_at v t flag o u (live_of v.threads u)) w e in
          at flag o (calls v t flag (call.Notify o) h) (owner_is (held_at v o).owner t g.0) (live_of v.threads u) refl g.1
      by (Some (flag, c)) h e = absurd (cc)

  pub notify_only : (u : ThreadId) (s : State) → notify v t u ≡ None → Steps (state v) (move.Notify t (Some u)) s → ⊥
  notify_only u s e p =
      let none = refused_by (owns v t p.1) (notify_at v t p.0 p.1 u (live_of v.threads u)) (ap (notify_for v t u) (sym (wanted_as v t p.0 (call.Notify p.1) p.2)) ∙ e) (owner_yes (held_at v p.1).owner t p.3) in
      refused (p.1.0 == p.1.0) (put (put_reply v t p.0 reply.Notified) u p.4 (Back p.1 p.5 why.Notified))
      (ap (notify_at v t p.0 p.1 u) (sym (live_is v u p.4 (Waits p.1 p.5 p.6) p.7)) ∙ none) (eq-eqb p.1.0 p.1.0 refl)

  pub notify_nobody_right : (w : MachineState) → notify_nobody v t ≡ Some w → Steps (state v) (move.Notify t None) (state w)
  notify_nobody_right w e = by (wanted v t) refl e
    where
      by : (q : Option (Bool × Call)) → wanted v t ≡ q → notify_nobody_for v t q ≡ Some w → Steps (state v) (move.Notify t None) (state w)
      by None h e = absurd (cc)
      by (Some (flag, call.Notify o)) h e =
          let g = guarded (owns v t o && not (some_waits v.threads o)) (put_reply v t flag reply.Notified) w e in
          let m = and_parts (owns v t o) (not (some_waits v.threads o)) g.0 in
          (flag, o, calls v t flag (call.Notify o) h, owner_is (held_at v o).owner t m.0, nobody v o (flipped (some_waits v.threads o) m.1), answer v t flag reply.Notified w g.1)
      by (Some (flag, c)) h e = absurd (cc)

  pub notify_nobody_only : (s : State) → notify_nobody v t ≡ None → Steps (state v) (move.Notify t None) s → ⊥
  notify_nobody_only s e p =
      refused (owns v t p.1 && not (some_waits v.threads p.1)) (put_reply v t p.0 reply.Notified) (ap (notify_nobody_for v t) (sym (wanted_as v t p.0 (call.Notify p.1) p.2)) ∙ e)
      (both_true (owns v t p.1) (not (some_waits v.threads p.1)) (owner_yes (held_at v p.1).owner t p.3) (by (some_waits v.threads p.1) refl))
    where
      by : (b : Bool) → some_waits v.threads p.1 ≡ b → not b ≡ true
      by true h = absurd (somebody v p.1 h p.4)
      by false h = refl

  pub notify_all_right : (w : MachineState) → IsSound v → notify_all v t ≡ Some w → Steps (state v) (move.NotifyAll t) (state w)
  notify_all_right w sound e = by (wanted v t) refl e
    where
      by : (q : Option (Bool × Call)) → wanted v t ≡ q → notify_all_for v t q ≡ Some w → Steps (state v) (move.NotifyAll t) (state w)
      by None h e = absurd (cc)
      by (Some (flag, call.NotifyAll o)) h e =
          let g = guarded (owns v t o) (put_reply (all_left v o) t flag reply.Notified) w e in (
            flag,
            o,
            calls v t flag (call.NotifyAll o) h,
            owner_is (held_at v o).owner t g.0,
            sym (ap state g.1) ∙ state-put (all_left v o) t flag (Has reply.Notified) ∙ ap (λ (s : State). with_reply s t flag reply.Notified) (state-all_left v o sound),
          )
      by (Some (flag, c)) h e = absurd (cc)

  pub notify_all_only : (s : State) → notify_all v t ≡ None → Steps (state v) (move.NotifyAll t) s → ⊥
  notify_all_only s e p =
      refused (owns v t p.1) (put_reply (all_left v p.1) t p.0 reply.Notified)
      (ap (notify_all_for v t) (sym (wanted_as v t p.0 (call.NotifyAll p.1) p.2)) ∙ e) (owner_yes (held_at v p.1).owner t p.3)

  -- ---- interrupts

  pub interrupt_right : (w : MachineState) → interrupt v t ≡ Some w → Steps (state v) (move.Interrupt t) (state w)
  interrupt_right w e = by (wanted v t) refl e
    where
      at : (flag : Bool) (u : ThreadId) → Calls (state v) t flag (call.Interrupt u) → (q : Option Live) → live_of v.threads u ≡ q → interrupt_at v t flag u q ≡ Some w
          → Steps (state v) (move.Interrupt t) (state w)
      at flag u h None k e = absurd (cc)
      at flag u h (Some x) k e =
          let mine = if t.0 == u.0 then true else flag in
          let there : MachineState = put v u true (after_interrupt x.act) in (
            flag,
            u,
            thread_of x,
            h,
            ap (option_map thread_of) k,
            sym (ap state (same_Some (put_reply there t mine reply.Done) w e)) ∙ state-put there t mine (Has reply.Done)
                ∙ ap (λ (s : State). with_reply s t mine reply.Done) (state-put v u true (after_interrupt x.act)),
          )

      by : (q : Option (Bool × Call)) → wanted v t ≡ q → interrupt_for v t q ≡ Some w → Steps (state v) (move.Interrupt t) (state w)
      by None h e = absurd (cc)
      by (Some (flag, call.Interrupt u)) h e = at flag u (calls v t flag (call.Interrupt u) h) (live_of v.threads u) refl e
      by (Some (flag, c)) h e = absurd (cc)

  pub interrupt_only : (s : State) → interrupt v t ≡ None → Steps (state v) (move.Interrupt t) s → ⊥
  interrupt_only s e p = at (live_of v.threads p.1) (ap (interrupt_for v t) (sym (wanted_as v t p.0 (call.Interrupt p.1) p.3)) ∙ e) p.4
    where
      at : (q : Option Live) → interrupt_at v t p.0 p.1 q ≡ None → option_map thread_of q ≡ Some p.2 → ⊥
      at None e h = cc
      at (Some x) e h = cc

  -- ---- questions, refusals and ends

  pub ask_right : (w : MachineState) → ask v t ≡ Some w → Steps (state v) (move.Ask t) (state w)
  ask_right w e = by (wanted v t) refl e
    where
      at : (flag : Bool) (u : ThreadId) → Calls (state v) t flag (call.IsInterrupted u) → (q : Option Live) → live_of v.threads u ≡ q → ask_at v t flag q ≡ Some w
          → Steps (state v) (move.Ask t) (state w)
      at flag u h None k e = absurd (cc)
      at flag u h (Some x) k e =
          (flag, x.flag, call.IsInterrupted u, h, (thread_of x, ap (option_map thread_of) k, refl), answer v t flag (yes_or_no x.flag) w (same_Some (put_reply v t flag (yes_or_no x.flag)) w e))

      by : (q : Option (Bool × Call)) → wanted v t ≡ q → ask_for v t q ≡ Some w → Steps (state v) (move.Ask t) (state w)
      by None h e = absurd (cc)
      by (Some (flag, call.Holds o)) h e = (
        flag,
        owns v t o,
        call.Holds o,
        calls v t flag (call.Holds o) h,
        (owner_is (held_at v o).owner t, owner_yes (held_at v o).owner t),
        answer v t flag (yes_or_no (owns v t o)) w (same_Some (put_reply v t flag (yes_or_no (owns v t o))) w e),
      )
      by (Some (flag, call.IsInterrupted u)) h e = at flag u (calls v t flag (call.IsInterrupted u) h) (live_of v.threads u) refl e
      by (Some (flag, c)) h e = absurd (cc)

  pub ask_only : (s : State) → ask v t ≡ None → Steps (state v) (move.Ask t) s → ⊥
  ask_only s e p = by p.2 (ap (ask_for v t) (sym (wanted_as v t p.0 p.2 p.3)) ∙ e) p.4
    where
      at : (q : Option Live) → ask_at v t p.0 q ≡ None → (x : Thread) → option_map thread_of q ≡ Some x → ⊥
      at None e x h = cc
      at (Some y) e x h = cc

      by : (c : Call) → ask_for v t (Some (p.0, c)) ≡ None → IsAnswer (state v) t c p.1 → ⊥
      by (call.Holds o) e h = cc
      by (call.IsInterrupted u) e h = at (live_of v.threads u) e h.0 h.1
      by c e h = h

  pub one_owned : (hs : List ObjectRecord) → owns_one hs t ≡ true → (k : ℕ) × (is_owned_by (get_or hs k untouched).held.owner t ≡ true)
  one_owned [] e = absurd (cc)
  one_owned (h ∷ hs) e = by (one_owned hs) (is_owned_by h.held.owner t) refl e
    where
      by : (owns_one hs t ≡ true → (k : ℕ) × (is_owned_by (get_or hs k untouched).held.owner t ≡ true)) → (b : Bool) → is_owned_by h.held.owner t ≡ b → (b || owns_one hs t) ≡ true
          → (k : ℕ) × (is_owned_by (get_or (h ∷ hs) k untouched).held.owner t ≡ true)
      by rest true i e = (zero, i)
      by rest false i e = let r = rest e in (suc r.0, r.1)

  pub owned_one : (hs : List ObjectRecord) (k : ℕ) → is_owned_by (get_or hs k untouched).held.owner t ≡ true → owns_one hs t ≡ true
  owned_one [] k e = absurd (cc)
  owned_one (h ∷ hs) zero e = rw (e) refl
  owned_one (h ∷ hs) (suc k) e = ap (λ b. is_owned_by h.held.owner t || b) (owned_one hs k e) ∙ by (is_owned_by h.held.owner t)
    where
      by : (b : Bool) → (b || true) ≡ true
      by true = refl
      by false = refl

  pub end_right : (w : MachineState) → end_thread v t ≡ Some w → Steps (state v) (move.End t) (state w)
  end_right w e = by (wanted v t) refl e
    where
      by : (q : Option (Bool × Call)) → wanted v t ≡ q → end_thread_for v t q ≡ Some w → Steps (state v) (move.End t) (state w)
      by None h e = absurd (cc)
      by (Some (flag, call.End)) h e =
          let g = guarded_not (owns_one v.objects t) (put_reply v t flag reply.Ended) w e in
          (flag, calls v t flag call.End h, (λ o own. never (owns_one v.objects t) (owned_one v.objects o.0 (owner_yes (held_at v o).owner t own)) g.0), answer v t flag reply.Ended w g.1)
      by (Some (flag, c)) h e = absurd (cc)

  pub end_only : (s : State) → end_thread v t ≡ None → Steps (state v) (move.End t) s → ⊥
  end_only s e p =
      let r = one_owned v.objects (refused_not (owns_one v.objects t) (put_reply v t p.0 reply.Ended) (ap (end_thread_for v t) (sym (wanted_as v t p.0 call.End p.1)) ∙ e)) in
      let o : ObjectId = record { 0 = r.0 } in
      p.2 o (owner_is (held_at v o).owner t r.1)
