-- What one move of the machine leaves of a thread that is back from a wait, or has its reply.
use Rattle.std.specs.Prelude.{◌≡◌, ◌⊎◌, ℕ, Bool, true, false, ◌==◌, Option, Some, None, if◌then◌else◌}
use Rattle.std.proofs.Common.{refl, inl, inr, sym, ap, subst, ◌∙◌}
use Rattle.std.proofs.lemmas.Bool.{cases_eq, eq-eqb, ne_eqb}
use Rattle.std.proofs.lemmas.Option.{same_Some}
use Rattle.lock_word.specs.declared.ThreadId.{ThreadId}
use Rattle.lock_word.specs.declared.ObjectId.{ObjectId}
use Rattle.fat_monitor.specs.declared.actions.Reply.{Reply}
use Rattle.fat_monitor.specs.declared.actions.Reply.TheVariants as reply
use Rattle.fat_monitor.specs.declared.actions.Why.{Why}
use Rattle.fat_monitor.specs.declared.actions.Why.TheVariants as why
use Rattle.fast_path.specs.declared.calls.Call.{Call}
use Rattle.fast_path.specs.declared.calls.Call.TheVariants as call
use Rattle.step_core.specs.declared.machine.Doing.{Doing}
use Rattle.step_core.specs.declared.machine.Doing.TheVariants.{Idle, Wants, Waits, Back, Has}
use Rattle.step_core.specs.declared.machine.Move.{Move}
use Rattle.step_core.specs.declared.machine.Move.TheVariants as move
use Rattle.step_core.specs.Machine.{State, Thread, Steps, Is, Calls, now_is, after_notify_all, after_interrupt, with_interrupt, flag_back, reply_of}

-- a thread is back from a wait, or has its reply
abbrev pub IsSteady : Doing → Type 0
IsSteady Idle = ⊥
IsSteady (Wants c) = ⊥
IsSteady (Waits o n d) = ⊥
IsSteady (Back o n w) = Unit {0}
IsSteady (Has r) = Unit {0}

-- it does the same still, and is interrupted if it was
abbrev pub Stays : State → ThreadId → Bool → Doing → Type 0
Stays s u flag d = (now : Bool) × (flag ≡ true → now ≡ true) × Is s u now d

-- it was back from a wait, and now has its reply
abbrev pub Relocked : State → ThreadId → Bool → Doing → Type 0
Relocked s u flag d = (o : ObjectId) × (n : ℕ) × (w : Why) × (d ≡ Back o n w) × Is s u (flag_back w flag) (Has (reply_of w))

-- the move returns with the reply that it had
abbrev pub Returned : Move → ThreadId → Doing → Type 0
Returned m u d = (t : ThreadId) × (r : Reply) × (m ≡ move.Return t r) × (t.0 ≡ u.0) × (d ≡ Has r)

-- what a move leaves of such a thread
abbrev pub Leaves : State → Move → ThreadId → Bool → Doing → Type 0
Leaves s m u flag d = Stays s u flag d ⊎ (Relocked s u flag d ⊎ Returned m u d)

-- taking all out of a wait set leaves it
woken_steady : (o : ObjectId) (d : Doing) → IsSteady d → after_notify_all o d ≡ d
woken_steady o Idle steady = refl
woken_steady o (Wants c) steady = refl
woken_steady o (Waits p n d) steady = absurd steady
woken_steady o (Back p n w) steady = refl
woken_steady o (Has r) steady = refl

-- and neither does an interrupt
stirred_steady : (d : Doing) → IsSteady d → after_interrupt d ≡ d
stirred_steady Idle steady = refl
stirred_steady (Wants c) steady = refl
stirred_steady (Waits p n d) steady = absurd steady
stirred_steady (Back p n w) steady = refl
stirred_steady (Has r) steady = refl

module _ (s : State) (u : ThreadId) (flag : Bool) (d : Doing) (steady : IsSteady d) (is : Is s u flag d) where
  -- a thread of the same number is the same thread
  same_as : (t : ThreadId) (f : Bool) (x : Doing) → Is s t f x → u.0 ≡ t.0 → ◌≡◌ {A = Thread} (record { flag = flag; act = d }) (record { flag = f; act = x })
  same_as t f x h same =
      same_Some (record { flag = flag; act = d }) (record { flag = f; act = x }) (sym is ∙ ap (λ n. s.thread (record { 0 = n })) same ∙ h)

  -- so a thread that does something else is another one
  others : (t : ThreadId) (f : Bool) (x : Doing) → Is s t f x → (IsSteady x → ⊥) → u.0 ≡ t.0 → ⊥
  others t f x h loose same = loose (subst IsSteady (ap (λ (y : Thread). y.act) (same_as t f x h same)) steady)

  caller : (t : ThreadId) (f : Bool) (c : Call) → Calls s t f c → u.0 ≡ t.0 → ⊥
  caller t f c h = others t f (Wants c) h (λ no. no)

  -- what another thread's move leaves
  kept : (t : ThreadId) (f : Bool) (x : Doing) → (u.0 ≡ t.0 → ⊥) → Is (now_is s t f x) u flag d
  kept t f x other = rw (ne_eqb u.0 t.0 other) is

  still : (s' : State) (m : Move) → Is s' u flag d → Leaves s' m u flag d
  still s' m e = inl (flag, (λ h. h), e)

  -- a return
  returning : (t : ThreadId) (f : Bool) (r : Reply) (s' : State) → Is s t f (Has r) → ((u.0 ≡ t.0 → ⊥) → s'.thread u ≡ s.thread u) → (u.0 ≡ t.0) ⊎ (u.0 ≡ t.0 → ⊥)
      → Leaves s' (move.Return t r) u flag d
  returning t f r s' has rest (inl same) = inr (inr (t, r, refl, sym same, ap (λ (y : Thread). y.act) (same_as t f (Has r) has same)))
  returning t f r s' has rest (inr other) = still s' (move.Return t r) (rest other ∙ is)

  returning_idle : (t : ThreadId) (f : Bool) (r : Reply) (s' : State) → Is s t f (Has r) → s' ≡ now_is s t f Idle → Leaves s' (move.Return t r) u flag d
  returning_idle t f r s' has e = returning t f r s' has (λ other. rw (e, ne_eqb u.0 t.0 other) refl) (cases_eq u.0 t.0)

  -- a grant of a monitor to a thread that is back
  relocking : (t : ThreadId) (f : Bool) (o : ObjectId) (n : ℕ) (w : Why) (s' : State) → Is s t f (Back o n w)
      → s'.thread u ≡ (if u.0 == t.0 then Some (record { flag = flag_back w f; act = Has (reply_of w) }) else s.thread u) → (u.0 ≡ t.0) ⊎ (u.0 ≡ t.0 → ⊥)
      → Leaves s' (move.Relock t) u flag d
  relocking t f o n w s' back e (inl same) =
      let one = same_as t f (Back o n w) back same in
      let flags : flag ≡ f = ap (λ (y : Thread). y.flag) one in
      inr (inl (o, n, w, ap (λ (y : Thread). y.act) one, rw (e, eq-eqb u.0 t.0 same, flags) refl))
  relocking t f o n w s' back e (inr other) = still s' (move.Relock t) (rw (e, ne_eqb u.0 t.0 other) is)

  pub one_step : (m : Move) (s' : State) → Steps s m s' → Leaves s' m u flag d
  one_step (move.Attach t) s' (none, e) = still s' (move.Attach t) (rw e (kept t false Idle fresh))
    where
      fresh : u.0 ≡ t.0 → ⊥
      fresh same = let never : ◌≡◌ {A = Option Thread} (Some (record { flag = flag; act = d })) None = sym is ∙ ap (λ n. s.thread (record { 0 = n })) same ∙ none in absurd (cc)
  one_step (move.Call t c) s' (f, idle, there, e) = still s' (move.Call t c) (rw e (kept t f (Wants c) (others t f Idle idle (λ no. no))))
  one_step (move.Return t reply.Ended) s' (f, has, e) = returning t f reply.Ended s' has (λ other. rw (e, ne_eqb u.0 t.0 other) refl) (cases_eq u.0 t.0)
  one_step (move.Return t reply.Entered) s' (f, has, e) = returning_idle t f reply.Entered s' has e
  one_step (move.Return t reply.Exited) s' (f, has, e) = returning_idle t f reply.Exited s' has e
  one_step (move.Return t reply.WaitOver) s' (f, has, e) = returning_idle t f reply.WaitOver s' has e
  one_step (move.Return t reply.Interrupted) s' (f, has, e) = returning_idle t f reply.Interrupted s' has e
  one_step (move.Return t reply.Done) s' (f, has, e) = returning_idle t f reply.Done s' has e
  one_step (move.Return t reply.Notified) s' (f, has, e) = returning_idle t f reply.Notified s' has e
  one_step (move.Return t reply.Yes) s' (f, has, e) = returning_idle t f reply.Yes s' has e
  one_step (move.Return t reply.No) s' (f, has, e) = returning_idle t f reply.No s' has e
  one_step (move.Return t reply.IllegalMonitorState) s' (f, has, e) = returning_idle t f reply.IllegalMonitorState s' has e
  one_step (move.Return t reply.IllegalArgument) s' (f, has, e) = returning_idle t f reply.IllegalArgument s' has e
  one_step (move.Return t (reply.Refused x)) s' (f, has, e) = returning_idle t f (reply.Refused x) s' has e
  one_step (move.Lock t) s' (f, o, calls, may, few, e) = still s' (move.Lock t) (rw e (kept t f (Has reply.Entered) (caller t f (call.Enter o) calls)))
  one_step (move.Unlock t) s' (f, o, n, calls, owned, e) = still s' (move.Unlock t) (rw e (kept t f (Has reply.Exited) (caller t f (call.Exit o) calls)))
  one_step (move.Illegal t) s' (f, c, o, calls, only, other, e) = still s' (move.Illegal t) (rw e (kept t f (Has reply.IllegalMonitorState) (caller t f c calls)))
  one_step (move.BadArgument t) s' (f, o, millis, nanos, calls, owned, bad, e) =
      still s' (move.BadArgument t) (rw e (kept t f (Has reply.IllegalArgument) (caller t f (call.Wait o millis nanos) calls)))
  one_step (move.Wait t) s' (o, millis, nanos, calls, owned, good, e) = still s' (move.Wait t) (rw e (kept t false _ (caller t false (call.Wait o millis nanos) calls)))
  one_step (move.Notify t (Some v)) s' (f, o, calls, owned, g, n, over, waits, e) =
      still s' (move.Notify t (Some v)) (rw (e, ne_eqb u.0 v.0 (others v g (Waits o n over) waits (λ no. no))) (kept t f (Has reply.Notified) (caller t f (call.Notify o) calls)))
  one_step (move.Notify t None) s' (f, o, calls, owned, nobody, e) = still s' (move.Notify t None) (rw e (kept t f (Has reply.Notified) (caller t f (call.Notify o) calls)))
  one_step (move.NotifyAll t) s' (f, o, calls, owned, e) =
      still s' (move.NotifyAll t) (rw (e, ne_eqb u.0 t.0 (caller t f (call.NotifyAll o) calls), is) (ap (λ (x : Doing). Some (record { flag = flag; act = x })) (woken_steady o d steady)))
  one_step (move.Early t) s' (o, millis, nanos, calls, owned, good, e) =
      still s' (move.Early t) (rw e (kept t false (Has reply.Interrupted) (caller t true (call.Wait o millis nanos) calls)))
  one_step (move.Interrupt t) s' (f, v, x, calls, live, e) = by_thread (cases_eq u.0 v.0)
    where
      by_thread : (u.0 ≡ v.0) ⊎ (u.0 ≡ v.0 → ⊥) → Leaves s' (move.Interrupt t) u flag d
      by_thread (inl same) =
          let one : ◌≡◌ {A = Thread} (record { flag = flag; act = d }) x = same_Some (record { flag = flag; act = d }) x (sym is ∙ ap (λ n. s.thread (record { 0 = n })) same ∙ live) in
          inl (
            true,
            (λ h. refl),
            rw (e, ne_eqb u.0 t.0 (caller t f (call.Interrupt v) calls), eq-eqb u.0 v.0 same)
                (ap (λ (y : Thread). Some (with_interrupt y)) (sym one) ∙ ap (λ (y : Doing). Some (record { flag = true; act = y })) (stirred_steady d steady)),
          )
      by_thread (inr other) =
          still s' (move.Interrupt t) (rw (e, ne_eqb u.0 t.0 (caller t f (call.Interrupt v) calls), ne_eqb u.0 v.0 other) is)
  one_step (move.TestClear t) s' (f, calls, e) = still s' (move.TestClear t) (rw e (kept t false _ (caller t f call.Interrupted calls)))
  one_step (move.Expire t) s' (f, o, n, over, waits, late, e) =
      still s' (move.Expire t) (rw e (kept t f (Back o n why.Elapsed) (others t f (Waits o n (Some over)) waits (λ no. no))))
  one_step (move.Spurious t) s' (f, o, n, d, waits, e) =
      still s' (move.Spurious t) (rw e (kept t f (Back o n why.Spurious) (others t f (Waits o n d) waits (λ no. no))))
  one_step (move.Time now) s' (later, e) = still s' (move.Time now) (rw e is)
  one_step (move.Relock t) s' (f, o, n, w, back, free, e) = relocking t f o n w s' back (rw e refl) (cases_eq u.0 t.0)
  one_step (move.Ask t) s' (f, answer, c, calls, right, e) = still s' (move.Ask t) (rw e (kept t f _ (caller t f c calls)))
  one_step (move.Refuse t x) s' (f, c, calls, may, e) = still s' (move.Refuse t x) (rw e (kept t f (Has (reply.Refused x)) (caller t f c calls)))
  one_step (move.End t) s' (f, calls, none, e) = still s' (move.End t) (rw e (kept t f (Has reply.Ended) (caller t f call.End calls)))
