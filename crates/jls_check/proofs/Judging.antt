-- A checker takes a move exactly where the machine may make it, and knows then what the machine's row says.
use Rattle.std.specs.Prelude.{◌≡◌, ◌⊎◌, ℕ, ◌+◌, ◌-◌, ◌<◌, ◌≤◌, Bool, true, false, not, ◌&&◌, ◌||◌, if◌then◌else◌, ◌==◌, nat_lt, length, ℤ, Option, Some, None, is_some, MatchOption}
use Rattle.std.specs.Option.{option_map}
use Rattle.std.proofs.Common.{refl, ap, sym, ◌∙◌, inl, inr, subst, arith}
use Rattle.std.proofs.lemmas.Bool.{and_parts, cases_eq, eq-eqb, ne_eqb, ltb-true, ltb-false, lt-ltb}
use Rattle.std.proofs.lemmas.Option.{same_Some}
use Rattle.lock_word.specs.declared.ThreadId.{ThreadId}
use Rattle.lock_word.specs.declared.ObjectId.{ObjectId}
use Rattle.fat_monitor.specs.declared.actions.Reply.{Reply}
use Rattle.fat_monitor.specs.declared.actions.Reply.TheVariants as reply
use Rattle.fat_monitor.specs.declared.actions.Why.TheVariants as why
use Rattle.fast_path.specs.declared.calls.Call.{Call}
use Rattle.fast_path.specs.declared.calls.Call.TheVariants as call
use Rattle.fast_path.specs.Calls.{object_of}
use Rattle.step_core.specs.declared.machine.Doing.{Doing}
use Rattle.step_core.specs.declared.machine.Doing.TheVariants.{Idle, Wants, Waits, Back, Has}
use Rattle.step_core.specs.declared.machine.Move.TheVariants as move
use Rattle.fat_monitor.specs.Replies.{yes_or_no}
use Rattle.step_core.specs.Machine.{State, Thread, Monitor, Steps, Is, Calls, Exists, now_is, with_reply, with_monitor, OwnedBy, held, free, owner_only, over_at, flag_back, reply_of}
use Rattle.jls_check.specs.declared.threads.Live.{Live}
use Rattle.jls_check.specs.declared.monitors.Held.{Held}
use Rattle.jls_check.specs.declared.machine.Wish.{Wish}
use Rattle.jls_check.specs.LiveThreads.{live_of}
use Rattle.jls_check.specs.Monitors.{unheld, is_owned_by}
use Rattle.jls_check.specs.MachineState.{MachineState, state, put, put_reply, with_held, held_at, thread_of, monitor_of, owns, IsSound}
use Rattle.jls_check.specs.Taking.{wants, wanted_of, wanted, may_be_locked, lock_for, lock, held_by, less_held, unlock_for, unlock, illegal_on, illegal_for, illegal, wish_for, wish, is_good, bad_argument_of, bad_argument, early_of, early, wait_of, wait, test_clear_for, test_clear, attach_at, attach, exists_below, make_call_from, make_call_at, make_call, expire_from, wake_from, expire_at, wake_at, expire, wake, relock_from, relock_at, relock}
use Rattle.jls_check.proofs.Guards.{guarded, guarded_not, refused, refused_not, both_true, flipped, good_time, time_good, never, owner_is, owner_yes, owner_not}
use Rattle.jls_check.proofs.States.{state-put, state-with_held}

-- ---- what a thread is doing

abbrev pub live : Bool → Doing → Live
live flag act = record { flag = flag; act = act }

live_back : Thread → Live
live_back x = live x.flag x.act

module _ (v : MachineState) (t : ThreadId) where
  pub live_is : (flag : Bool) (act : Doing) → Is (state v) t flag act → live_of v.threads t ≡ Some (live flag act)
  unfolding live_back
  live_is flag act e = by (live_of v.threads t) e
    where
      by : (y : Option Live) → option_map thread_of y ≡ Some (thread_of (live flag act)) → y ≡ Some (live flag act)
      by None e = absurd (cc)
      by (Some x) e = ap (λ (z : Thread). Some (live_back z)) (same_Some (thread_of x) (thread_of (live flag act)) e)

  pub is_live : (x : Live) → live_of v.threads t ≡ Some x → Is (state v) t x.flag x.act
  is_live x e = ap (option_map thread_of) e

  wants_is : (flag : Bool) (act : Doing) (g : Bool) (c : Call) → wants flag act ≡ Some (g, c) → (flag ≡ g) × (act ≡ Wants c)
  wants_is flag (Wants d) g c e = let p = same_Some (flag, d) (g, c) e in (ap (λ x. x.0) p, ap (λ x. Wants x.1) p)
  wants_is flag Idle g c e = absurd (cc)
  wants_is flag (Waits o n d) g c e = absurd (cc)
  wants_is flag (Back o n w) g c e = absurd (cc)
  wants_is flag (Has r) g c e = absurd (cc)

  pub calls : (flag : Bool) (c : Call) → wanted v t ≡ Some (flag, c) → Calls (state v) t flag c
  calls flag c e = by (live_of v.threads t) refl e
    where
      by : (y : Option Live) → live_of v.threads t ≡ y → wanted_of y ≡ Some (flag, c) → Calls (state v) t flag c
      by None h e = absurd (cc)
      by (Some x) h e = let p = wants_is x.flag x.act flag c e in is_live x h ∙ (λ i. Some (thread_of (live (p.0 i) (p.1 i))))

  pub wanted_as : (flag : Bool) (c : Call) → Calls (state v) t flag c → wanted v t ≡ Some (flag, c)
  wanted_as flag c e = ap wanted_of (live_is flag (Wants c) e)

  pub there : IsSound v → (flag : Bool) (c : Call) → wanted v t ≡ Some (flag, c) → Exists (length v.objects) c
  there sound flag c e = sound.exist t (live flag (Wants c)) (live_is flag (Wants c) (calls flag c e))

  -- ---- what a row leaves

  pub answer : (flag : Bool) (r : Reply) (w : MachineState) → put_reply v t flag r ≡ w → state w ≡ with_reply (state v) t flag r
  answer flag r w e = sym (ap state e) ∙ state-put v t flag (Has r)

  pub changed : (flag : Bool) (act : Doing) (o : ObjectId) (h : Held) (w : MachineState) → o.0 < length v.objects → put (with_held v o h) t flag act ≡ w
      → state w ≡ with_monitor (now_is (state v) t flag act) o (monitor_of h)
  changed flag act o h w exists e =
      sym (ap state e) ∙ state-put (with_held v o h) t flag act
      ∙ ap (λ (s : State). now_is s t flag act) (state-with_held v o h exists)

  -- ---- locks

  may_own : (o : Option ThreadId) → (not (is_some o) || is_owned_by o t) ≡ true → (o ≡ None) ⊎ (o ≡ Some t)
  may_own None e = inl refl
  may_own (Some u) e = inr (owner_is (Some u) t e)

  lock_free : (h : Held) → (h.owner ≡ None) ⊎ (h.owner ≡ Some t) → h.count < 65535 → may_be_locked h t ≡ true
  lock_free h (inl e) few = rw (e, lt-ltb h.count 65535 few) refl
  lock_free h (inr e) few = rw (e, eq-eqb t.0 t.0 refl, lt-ltb h.count 65535 few) refl

  pub lock_right : (w : MachineState) → IsSound v → lock v t ≡ Some w → Steps (state v) (move.Lock t) (state w)
  lock_right w sound e = by (wanted v t) refl e
    where
      by : (q : Option (Bool × Call)) → wanted v t ≡ q → lock_for v t q ≡ Some w → Steps (state v) (move.Lock t) (state w)
      by None h e = absurd (cc)
      by (Some (flag, call.Enter o)) h e =
          let g = guarded (may_be_locked (held_at v o) t) (put_reply (with_held v o (held_by t ((held_at v o).count + 1))) t flag reply.Entered) w e in
          let m = and_parts (not (is_some (held_at v o).owner) || is_owned_by (held_at v o).owner t) (nat_lt (held_at v o).count 65535) g.0 in (
            flag,
            o,
            calls flag (call.Enter o) h,
            may_own (held_at v o).owner m.0,
            ltb-true (held_at v o).count 65535 m.1,
            changed flag (Has reply.Entered) o (held_by t ((held_at v o).count + 1)) w (there sound flag (call.Enter o) h) g.1,
          )
      by (Some (flag, c)) h e = absurd (cc)

  pub lock_only : (s : State) → lock v t ≡ None → Steps (state v) (move.Lock t) s → ⊥
  lock_only s e p =
      refused (may_be_locked (held_at v p.1) t) (put_reply (with_held v p.1 (held_by t ((held_at v p.1).count + 1))) t p.0 reply.Entered)
      (ap (lock_for v t) (sym (wanted_as p.0 (call.Enter p.1) p.2)) ∙ e)
      (lock_free (held_at v p.1) p.3 p.4)

  less_is : (n : ℕ) → monitor_of (less_held t (n + 1)) ≡ (if n == 0 then free else held t n)
  less_is n = by (cases_eq n 0)
    where
      by : (n ≡ 0) ⊎ (n ≡ 0 → ⊥) → monitor_of (less_held t (n + 1)) ≡ (if n == 0 then free else held t n)
      by (inl e) = rw (e) refl
      by (inr ne) =
          let more : n + 1 ≡ 1 → ⊥ = λ e. ne (omega (arith, e)) in
          let back : n + 1 - 1 ≡ n = omega arith in
          rw (ne_eqb n 0 ne, ne_eqb (n + 1) 1 more) (ap (held t) back)

  pub unlock_right : (w : MachineState) → IsSound v → unlock v t ≡ Some w → Steps (state v) (move.Unlock t) (state w)
  unlock_right w sound e = by (wanted v t) refl e
    where
      by : (q : Option (Bool × Call)) → wanted v t ≡ q → unlock_for v t q ≡ Some w → Steps (state v) (move.Unlock t) (state w)
      by None h e = absurd (cc)
      by (Some (flag, call.Exit o)) h e =
          let n = (held_at v o).count in
          let g = guarded (owns v t o && nat_lt 0 n) (put_reply (with_held v o (less_held t n)) t flag reply.Exited) w e in
          let m = and_parts (owns v t o) (nat_lt 0 n) g.0 in
          let some : 0 < n = ltb-true 0 n m.1 in
          let same : n ≡ n - 1 + 1 = omega (arith, some) in
          let owner = owner_is (held_at v o).owner t m.0 in (
            flag,
            o,
            n - 1,
            calls flag (call.Exit o) h,
            (λ i. record { owner = owner i; count = same i }),
            changed flag (Has reply.Exited) o (less_held t n) w (there sound flag (call.Exit o) h) g.1
                ∙ ap (λ (x : Monitor). with_monitor (with_reply (state v) t flag reply.Exited) o x) (ap (λ k. monitor_of (less_held t k)) same ∙ less_is (n - 1)),
          )
      by (Some (flag, c)) h e = absurd (cc)

  pub unlock_only : (s : State) → unlock v t ≡ None → Steps (state v) (move.Unlock t) s → ⊥
  unlock_only s e p =
      let n = (held_at v p.1).count in
      let count : n ≡ p.2 + 1 = ap (λ (x : Monitor). x.count) p.4 in
      refused (owns v t p.1 && nat_lt 0 n) (put_reply (with_held v p.1 (less_held t n)) t p.0 reply.Exited)
      (ap (unlock_for v t) (sym (wanted_as p.0 (call.Exit p.1) p.3)) ∙ e)
      (both_true (owns v t p.1) (nat_lt 0 n) (owner_yes (held_at v p.1).owner t (ap (λ (x : Monitor). x.owner) p.4)) (lt-ltb 0 n (omega (arith, count))))

  pub illegal_right : (w : MachineState) → illegal v t ≡ Some w → Steps (state v) (move.Illegal t) (state w)
  illegal_right w e = by (wanted v t) refl e
    where
      on : (flag : Bool) (c : Call) → wanted v t ≡ Some (flag, c) → (o : Option ObjectId) → owner_only c ≡ o → illegal_on v t flag o ≡ Some w
          → Steps (state v) (move.Illegal t) (state w)
      on flag c h None k e = absurd (cc)
      on flag c h (Some o) k e =
          let g = guarded_not (owns v t o) (put_reply v t flag reply.IllegalMonitorState) w e in
          (flag, c, o, calls flag c h, k, owner_not (held_at v o).owner t g.0, answer flag reply.IllegalMonitorState w g.1)

      by : (q : Option (Bool × Call)) → wanted v t ≡ q → illegal_for v t q ≡ Some w → Steps (state v) (move.Illegal t) (state w)
      by None h e = absurd (cc)
      by (Some (flag, c)) h e = on flag c h (owner_only c) refl e

  pub illegal_only : (s : State) → illegal v t ≡ None → Steps (state v) (move.Illegal t) s → ⊥
  illegal_only s e p =
      let none = ap (illegal_on v t p.0) (sym p.4) ∙ ap (illegal_for v t) (sym (wanted_as p.0 p.1 p.3)) ∙ e in
      p.5 (owner_is (held_at v p.2).owner t (refused_not (owns v t p.2) (put_reply v t p.0 reply.IllegalMonitorState) none))

  -- ---- waits

  wish_is : (w : Wish) → IsSound v → wish v t ≡ Some w
      → Calls (state v) t w.flag (call.Wait w.object w.millis w.nanos) × OwnedBy (state v) w.object t × (w.object.0 < length v.objects)
  wish_is w sound e = by (wanted v t) refl e
    where
      by : (q : Option (Bool × Call)) → wanted v t ≡ q → wish_for v t q ≡ Some w
          → Calls (state v) t w.flag (call.Wait w.object w.millis w.nanos) × OwnedBy (state v) w.object t × (w.object.0 < length v.objects)
      by None h e = absurd (cc)
      by (Some (flag, call.Wait o millis nanos)) h e =
          let g = guarded (owns v t o) (record { flag = flag; object = o; millis = millis; nanos = nanos }) w e in
          subst (λ (x : Wish). Calls (state v) t x.flag (call.Wait x.object x.millis x.nanos) × OwnedBy (state v) x.object t × (x.object.0 < length v.objects)) g.1
          (calls flag (call.Wait o millis nanos) h, owner_is (held_at v o).owner t g.0, there sound flag (call.Wait o millis nanos) h)
      by (Some (flag, c)) h e = absurd (cc)

  wish_as : (flag : Bool) (o : ObjectId) (millis nanos : ℤ) → Calls (state v) t flag (call.Wait o millis nanos) → OwnedBy (state v) o t
      → wish v t ≡ Some (record { flag = flag; object = o; millis = millis; nanos = nanos })
  wish_as flag o millis nanos h own =
      ap (wish_for v t) (wanted_as flag (call.Wait o millis nanos) h)
      ∙ ap (λ b. if b then Some (record { flag = flag; object = o; millis = millis; nanos = nanos }) else None) (owner_yes (held_at v o).owner t own)

  pub bad_argument_right : (w : MachineState) → IsSound v → bad_argument v t ≡ Some w → Steps (state v) (move.BadArgument t) (state w)
  bad_argument_right w sound e = by (wish v t) refl e
    where
      by : (q : Option Wish) → wish v t ≡ q → bad_argument_of v t q ≡ Some w → Steps (state v) (move.BadArgument t) (state w)
      by None h e = absurd (cc)
      by (Some x) h e =
          let g = guarded_not (is_good x.millis x.nanos) (put_reply v t x.flag reply.IllegalArgument) w e in
          let k = wish_is x sound h in
          (x.flag, x.object, x.millis, x.nanos, k.0, k.1, (λ good. never (is_good x.millis x.nanos) (time_good x.millis x.nanos good) g.0), answer x.flag reply.IllegalArgument w g.1)

  pub bad_argument_only : (s : State) → bad_argument v t ≡ None → Steps (state v) (move.BadArgument t) s → ⊥
  bad_argument_only s e p =
      let none = ap (bad_argument_of v t) (sym (wish_as p.0 p.1 p.2 p.3 p.4 p.5)) ∙ e in
      p.6 (good_time p.2 p.3 (refused_not (is_good p.2 p.3) (put_reply v t p.0 reply.IllegalArgument) none))

  pub early_right : (w : MachineState) → IsSound v → early v t ≡ Some w → Steps (state v) (move.Early t) (state w)
  early_right w sound e = by (wish v t) refl e
    where
      by : (q : Option Wish) → wish v t ≡ q → early_of v t q ≡ Some w → Steps (state v) (move.Early t) (state w)
      by None h e = absurd (cc)
      by (Some x) h e =
          let g = guarded (is_good x.millis x.nanos && x.flag) (put_reply v t false reply.Interrupted) w e in
          let m = and_parts (is_good x.millis x.nanos) x.flag g.0 in
          let k = wish_is x sound h in (
            x.object,
            x.millis,
            x.nanos,
            subst (λ (f : Bool). Calls (state v) t f (call.Wait x.object x.millis x.nanos)) m.1 k.0,
            k.1,
            good_time x.millis x.nanos m.0,
            answer false reply.Interrupted w g.1,
          )

  pub early_only : (s : State) → early v t ≡ None → Steps (state v) (move.Early t) s → ⊥
  early_only s e p =
      refused (is_good p.1 p.2 && true) (put_reply v t false reply.Interrupted) (ap (early_of v t) (sym (wish_as true p.0 p.1 p.2 p.3 p.4)) ∙ e)
      (both_true (is_good p.1 p.2) true (time_good p.1 p.2 p.5) refl)

  pub wait_right : (w : MachineState) → IsSound v → wait v t ≡ Some w → Steps (state v) (move.Wait t) (state w)
  wait_right w sound e = by (wish v t) refl e
    where
      by : (q : Option Wish) → wish v t ≡ q → wait_of v t q ≡ Some w → Steps (state v) (move.Wait t) (state w)
      by None h e = absurd (cc)
      by (Some x) h e =
          let act = Waits x.object (held_at v x.object).count (over_at v.moment x.millis x.nanos) in
          let g = guarded (is_good x.millis x.nanos && not x.flag) (put (with_held v x.object unheld) t false act) w e in
          let m = and_parts (is_good x.millis x.nanos) (not x.flag) g.0 in
          let k = wish_is x sound h in (
            x.object,
            x.millis,
            x.nanos,
            subst (λ (f : Bool). Calls (state v) t f (call.Wait x.object x.millis x.nanos)) (flipped x.flag m.1) k.0,
            k.1,
            good_time x.millis x.nanos m.0,
            changed false act x.object unheld w k.2 g.1,
          )

  pub wait_only : (s : State) → wait v t ≡ None → Steps (state v) (move.Wait t) s → ⊥
  wait_only s e p =
      refused (is_good p.1 p.2 && not false) (put (with_held v p.0 unheld) t false (Waits p.0 (held_at v p.0).count (over_at v.moment p.1 p.2)))
      (ap (wait_of v t) (sym (wish_as false p.0 p.1 p.2 p.3 p.4)) ∙ e)
      (both_true (is_good p.1 p.2) true (time_good p.1 p.2 p.5) refl)

  -- ---- the flag, and the way back

  pub test_clear_right : (w : MachineState) → test_clear v t ≡ Some w → Steps (state v) (move.TestClear t) (state w)
  test_clear_right w e = by (wanted v t) refl e
    where
      by : (q : Option (Bool × Call)) → wanted v t ≡ q → test_clear_for v t q ≡ Some w → Steps (state v) (move.TestClear t) (state w)
      by None h e = absurd (cc)
      by (Some (flag, call.Interrupted)) h e =
          (flag, calls flag call.Interrupted h, answer false (yes_or_no flag) w (same_Some (put_reply v t false (yes_or_no flag)) w e))
      by (Some (flag, c)) h e = absurd (cc)

  pub test_clear_only : (s : State) → test_clear v t ≡ None → Steps (state v) (move.TestClear t) s → ⊥
  test_clear_only s e p = let never = ap (test_clear_for v t) (sym (wanted_as p.0 call.Interrupted p.1)) ∙ e in cc

  pub expire_right : (w : MachineState) → expire v t ≡ Some w → Steps (state v) (move.Expire t) (state w)
  expire_right w e = by (live_of v.threads t) refl e
    where
      on : (flag : Bool) (d : Doing) → live_of v.threads t ≡ Some (live flag d) → expire_from v t flag d ≡ Some w → Steps (state v) (move.Expire t) (state w)
      on flag (Waits o n (Some d)) h e =
          let g = guarded_not (nat_lt v.moment d) (put v t flag (Back o n why.Elapsed)) w e in
          let due : d ≤ v.moment = omega (arith, ltb-false v.moment d g.0) in
          (flag, o, n, d, is_live (live flag (Waits o n (Some d))) h, due, sym (ap state g.1) ∙ state-put v t flag (Back o n why.Elapsed))
      on flag (Waits o n None) h e = absurd (cc)
      on flag Idle h e = absurd (cc)
      on flag (Wants c) h e = absurd (cc)
      on flag (Back o n w) h e = absurd (cc)
      on flag (Has r) h e = absurd (cc)

      by : (q : Option Live) → live_of v.threads t ≡ q → expire_at v t q ≡ Some w → Steps (state v) (move.Expire t) (state w)
      by None h e = absurd (cc)
      by (Some x) h e = on x.flag x.act h e

  pub expire_only : (s : State) → expire v t ≡ None → Steps (state v) (move.Expire t) s → ⊥
  expire_only s e p =
      let late = refused_not (nat_lt v.moment p.3) (put v t p.0 (Back p.1 p.2 why.Elapsed))
      (ap (expire_at v t) (sym (live_is p.0 (Waits p.1 p.2 (Some p.3)) p.4)) ∙ e) in
      let due = p.5 in
      let no : v.moment < p.3 = ltb-true v.moment p.3 late in
      omega (arith, due, no)

  pub wake_right : (w : MachineState) → wake v t ≡ Some w → Steps (state v) (move.Spurious t) (state w)
  wake_right w e = by (live_of v.threads t) refl e
    where
      on : (flag : Bool) (d : Doing) → live_of v.threads t ≡ Some (live flag d) → wake_from v t flag d ≡ Some w → Steps (state v) (move.Spurious t) (state w)
      on flag (Waits o n d) h e =
          let one = same_Some (put v t flag (Back o n why.Spurious)) w e in
          (flag, o, n, d, is_live (live flag (Waits o n d)) h, sym (ap state one) ∙ state-put v t flag (Back o n why.Spurious))
      on flag Idle h e = absurd (cc)
      on flag (Wants c) h e = absurd (cc)
      on flag (Back o n w) h e = absurd (cc)
      on flag (Has r) h e = absurd (cc)

      by : (q : Option Live) → live_of v.threads t ≡ q → wake_at v t q ≡ Some w → Steps (state v) (move.Spurious t) (state w)
      by None h e = absurd (cc)
      by (Some x) h e = on x.flag x.act h e

  pub wake_only : (s : State) → wake v t ≡ None → Steps (state v) (move.Spurious t) s → ⊥
  wake_only s e p =
      let never : ◌≡◌ {A = Option MachineState} (Some (put v t p.0 (Back p.1 p.2 why.Spurious))) None = ap (wake_at v t) (sym (live_is p.0 (Waits p.1 p.2 p.3) p.4)) ∙ e in cc

  pub relock_right : (w : MachineState) → IsSound v → relock v t ≡ Some w → Steps (state v) (move.Relock t) (state w)
  relock_right w sound e = by (live_of v.threads t) refl e
    where
      unowned : (o : Option ThreadId) → is_some o ≡ false → o ≡ None
      unowned None e = refl
      unowned (Some u) e = absurd (cc)

      on : (flag : Bool) (d : Doing) → live_of v.threads t ≡ Some (live flag d) → relock_from v t flag d ≡ Some w → Steps (state v) (move.Relock t) (state w)
      on flag (Back o n y) h e =
          let g = guarded_not (is_some (held_at v o).owner) (put_reply (with_held v o (held_by t n)) t (flag_back y flag) (reply_of y)) w e in (
            flag,
            o,
            n,
            y,
            is_live (live flag (Back o n y)) h,
            unowned (held_at v o).owner g.0,
            changed (flag_back y flag) (Has (reply_of y)) o (held_by t n) w (sound.exist t (live flag (Back o n y)) h) g.1,
          )
      on flag Idle h e = absurd (cc)
      on flag (Wants c) h e = absurd (cc)
      on flag (Waits o n d) h e = absurd (cc)
      on flag (Has r) h e = absurd (cc)

      by : (q : Option Live) → live_of v.threads t ≡ q → relock_at v t q ≡ Some w → Steps (state v) (move.Relock t) (state w)
      by None h e = absurd (cc)
      by (Some x) h e = on x.flag x.act h e

  pub relock_only : (s : State) → relock v t ≡ None → Steps (state v) (move.Relock t) s → ⊥
  relock_only s e p =
      let taken = refused_not (is_some (held_at v p.1).owner) (put_reply (with_held v p.1 (held_by t p.2)) t (flag_back p.3 p.0) (reply_of p.3))
      (ap (relock_at v t) (sym (live_is p.0 (Back p.1 p.2 p.3) p.4)) ∙ e) in
      never (is_some (held_at v p.1).owner) taken (ap (λ (o : Option ThreadId). is_some o) p.5)

  -- ---- attach and call

  pub attach_right : (w : MachineState) → attach v t ≡ Some w → Steps (state v) (move.Attach t) (state w)
  attach_right w e = by (live_of v.threads t) refl e
    where
      by : (q : Option Live) → live_of v.threads t ≡ q → attach_at v t q ≡ Some w → Steps (state v) (move.Attach t) (state w)
      by None h e = (ap (option_map thread_of) h, sym (ap state (same_Some (put v t false Idle) w e)) ∙ state-put v t false Idle)
      by (Some x) h e = absurd (cc)

  pub attach_only : (s : State) → attach v t ≡ None → Steps (state v) (move.Attach t) s → ⊥
  attach_only s e p = by (live_of v.threads t) e p.0
    where
      by : (q : Option Live) → attach_at v t q ≡ None → option_map thread_of q ≡ None → ⊥
      by None e h = cc
      by (Some x) e h = cc

  names : (c : Call) → exists_below (length v.objects) (object_of c) ≡ true → Exists (length v.objects) c
  names c e = by (object_of c) e
    where
      by : (o : Option ObjectId) → exists_below (length v.objects) o ≡ true → MatchOption o (Unit {0}) (λ p. p.0 < length v.objects)
      by None e = tt
      by (Some o) e = ltb-true o.0 (length v.objects) e

  named : (c : Call) → Exists (length v.objects) c → exists_below (length v.objects) (object_of c) ≡ true
  named c e = by (object_of c) e
    where
      by : (o : Option ObjectId) → MatchOption o (Unit {0}) (λ p. p.0 < length v.objects) → exists_below (length v.objects) o ≡ true
      by None e = refl
      by (Some o) e = lt-ltb o.0 (length v.objects) e

  pub make_call_right : (c : Call) (w : MachineState) → make_call v t c ≡ Some w → Steps (state v) (move.Call t c) (state w)
  make_call_right c w e = by (live_of v.threads t) refl e
    where
      on : (flag : Bool) (d : Doing) → live_of v.threads t ≡ Some (live flag d) → make_call_from v t c flag d ≡ Some w → Steps (state v) (move.Call t c) (state w)
      on flag Idle h e =
          let g = guarded (exists_below (length v.objects) (object_of c)) (put v t flag (Wants c)) w e in
          (flag, is_live (live flag Idle) h, names c g.0, sym (ap state g.1) ∙ state-put v t flag (Wants c))
      on flag (Wants d) h e = absurd (cc)
      on flag (Waits o n d) h e = absurd (cc)
      on flag (Back o n y) h e = absurd (cc)
      on flag (Has r) h e = absurd (cc)

      by : (q : Option Live) → live_of v.threads t ≡ q → make_call_at v t c q ≡ Some w → Steps (state v) (move.Call t c) (state w)
      by None h e = absurd (cc)
      by (Some x) h e = on x.flag x.act h e

  pub make_call_only : (c : Call) (s : State) → make_call v t c ≡ None → Steps (state v) (move.Call t c) s → ⊥
  make_call_only c s e p =
      refused (exists_below (length v.objects) (object_of c)) (put v t p.0 (Wants c)) (ap (make_call_at v t c) (sym (live_is p.0 Idle p.1)) ∙ e) (named c p.2)
