-- A checker takes each move exactly where the machine may make it.
use Rattle.std.specs.Prelude.{◌≡◌, ℕ, ◌<◌, Bool, true, false, not, if◌then◌else◌, ◌==◌, nat_lt, Option, Some, None, is_some}
use Rattle.std.specs.Option.{option_map}
use Rattle.std.proofs.Common.{refl, ap, sym, ◌∙◌, subst, arith}
use Rattle.std.proofs.lemmas.Bool.{and_parts, eqb-true, eq-eqb, ltb-true, ltb-false}
use Rattle.lock_word.specs.declared.ThreadId.{ThreadId}
use Rattle.lock_word.specs.declared.ObjectId.{ObjectId}
use Rattle.fat_monitor.specs.declared.actions.Cause.{Cause}
use Rattle.fat_monitor.specs.declared.actions.Cause.TheVariants as cause
use Rattle.fat_monitor.specs.declared.actions.Reply.{Reply}
use Rattle.fat_monitor.specs.declared.actions.Reply.TheVariants as reply
use Rattle.fast_path.specs.declared.calls.Call.{Call}
use Rattle.fast_path.specs.declared.calls.Call.TheVariants as call
use Rattle.step_core.specs.declared.machine.Doing.{Doing}
use Rattle.step_core.specs.declared.machine.Doing.TheVariants.{Idle, Wants, Waits, Back, Has}
use Rattle.step_core.specs.declared.machine.Move.{Move}
use Rattle.step_core.specs.declared.machine.Move.TheVariants as move
use Rattle.step_core.specs.Machine.{State, Steps, Is, MayRefuse}
use Rattle.jls_check.specs.declared.threads.Live.{Live}
use Rattle.jls_check.specs.LiveThreads.{live_of}
use Rattle.jls_check.specs.MachineState.{MachineState, state, put, put_reply, held_at, thread_of, owns, IsSound}
use Rattle.jls_check.specs.Taking.{wanted, may_refuse, refuse_for, refuse_call, time, distinct_number, has_reply, after_return, return_at, return_with, is_good}
use Rattle.jls_check.proofs.States.{state-put, state-without}
use Rattle.jls_check.proofs.Replying.{one_owned, owned_one, notify_right, notify_only, notify_nobody_right, notify_nobody_only, notify_all_right, notify_all_only, interrupt_right, interrupt_only, ask_right, ask_only, end_right, end_only}
use Rattle.std.specs.Prelude.{Result, Err, OnOk, OnErr, IsErrOf}
use Rattle.jls_check.specs.declared.faults.MoveFault.{MoveFault}
use Rattle.jls_check.specs.declared.faults.MoveFault.TheVariants.{Broken, Memory}
use Rattle.jls_check.specs.Judging.{IsUnlawful, IsAttach}
use Rattle.jls_check.specs.Taking.{takes, taken, after_move, attach_at, attach, AfterMove}
use Rattle.jls_check.proofs.Guards.{guarded, guarded_not, refused, refused_not, both_true, owner_is, owner_yes, good_time, time_good}
use Rattle.jls_check.proofs.Judging.{lock_right, lock_only, unlock_right, unlock_only, illegal_right, illegal_only, bad_argument_right, bad_argument_only, early_right, early_only, wait_right, wait_only, test_clear_right, test_clear_only, expire_right, expire_only, wake_right, wake_only, relock_right, relock_only, attach_right, attach_only, make_call_right, make_call_only, live_is, is_live, calls, wanted_as, answer}

-- a reply is known by its number
numbered : ℕ → Reply
numbered n =
    if n == 0 then reply.Entered else if n == 1 then reply.Exited else if n == 2 then reply.WaitOver else if n == 3 then reply.Interrupted
    else if n == 4 then reply.Notified else if n == 5 then reply.Yes else if n == 6 then reply.No else if n == 7 then reply.Done
    else if n == 8 then reply.Ended else if n == 9 then reply.IllegalMonitorState else if n == 10 then reply.IllegalArgument
    else if n == 11 then reply.Refused cause.NoMonitor else if n == 12 then reply.Refused cause.Memory else if n == 13 then reply.Refused cause.TooDeep
    else if n == 14 then reply.Refused cause.StillOwner else reply.Refused cause.NoThread

numbered_back : (r : Reply) → numbered (distinct_number r) ≡ r
unfolding numbered
numbered_back reply.Entered = refl
numbered_back reply.Exited = refl
numbered_back reply.WaitOver = refl
numbered_back reply.Interrupted = refl
numbered_back reply.Notified = refl
numbered_back reply.Yes = refl
numbered_back reply.No = refl
numbered_back reply.Done = refl
numbered_back reply.Ended = refl
numbered_back reply.IllegalMonitorState = refl
numbered_back reply.IllegalArgument = refl
numbered_back (reply.Refused cause.NoMonitor) = refl
numbered_back (reply.Refused cause.Memory) = refl
numbered_back (reply.Refused cause.TooDeep) = refl
numbered_back (reply.Refused cause.StillOwner) = refl
numbered_back (reply.Refused cause.NoThread) = refl

pub one_reply : (q r : Reply) → (distinct_number q == distinct_number r) ≡ true → q ≡ r
one_reply q r e = sym (numbered_back q) ∙ ap numbered (eqb-true (distinct_number q) (distinct_number r) e) ∙ numbered_back r

pub has_it : (d : Doing) (r : Reply) → has_reply d r ≡ true → d ≡ Has r
has_it (Has q) r e = ap (λ (x : Reply). Has x) (one_reply q r e)
has_it Idle r e = absurd (cc)
has_it (Wants c) r e = absurd (cc)
has_it (Waits o n d) r e = absurd (cc)
has_it (Back o n w) r e = absurd (cc)

-- who has the reply Ended has ended
pub has_ended : (x : Live) (r : Reply) → true ≡ has_reply x.act r → r ≡ reply.Ended → Some x ≡ Some (record { flag = x.flag; act = Has reply.Ended })
has_ended x r e same = ap (λ (d : Doing). let y : Live = record { flag = x.flag; act = d } in Some y) (has_it x.act r (sym e) ∙ ap (λ (q : Reply). Has q) same)

module _ (v : MachineState) (t : ThreadId) where
  returned : (r : Reply) (flag : Bool) (w : MachineState) → Is (state v) t flag (Has r) → after_return v t flag r ≡ w → Steps (state v) (move.Return t r) (state w)
  returned reply.Ended flag w h e = (flag, h, sym (ap state e) ∙ state-without v t)
  returned r flag w h e = (flag, h, sym (ap state e) ∙ state-put v t flag Idle)

  returns : (r : Reply) (s : State) → Steps (state v) (move.Return t r) s → (flag : Bool) × Is (state v) t flag (Has r)
  returns reply.Ended s p = (p.0, p.1)
  returns r s p = (p.0, p.1)

  return_right : (r : Reply) (w : MachineState) → return_with v t r ≡ Some w → Steps (state v) (move.Return t r) (state w)
  return_right r w e = by (live_of v.threads t) refl e
    where
      by : (q : Option Live) → live_of v.threads t ≡ q → return_at v t r q ≡ Some w → Steps (state v) (move.Return t r) (state w)
      by None h e = absurd (cc)
      by (Some x) h e =
          let g = guarded (has_reply x.act r) (after_return v t x.flag r) w e in
          returned r x.flag w (subst (λ (d : Doing). Is (state v) t x.flag d) (has_it x.act r g.0) (is_live v t x h)) g.1

  return_only : (r : Reply) (s : State) → return_with v t r ≡ None → Steps (state v) (move.Return t r) s → ⊥
  return_only r s e p =
      let k = returns r s p in
      refused (distinct_number r == distinct_number r) (after_return v t k.0 r) (ap (return_at v t r) (sym (live_is v t k.0 (Has r) k.1)) ∙ e) (eq-eqb (distinct_number r) (distinct_number r) refl)

  -- ---- refusals

  gone : (u : ThreadId) → not (is_some (live_of v.threads u)) ≡ true → (state v).thread u ≡ None
  gone u e = by (live_of v.threads u) e
    where
      by : (q : Option Live) → not (is_some q) ≡ true → option_map thread_of q ≡ None
      by None e = refl
      by (Some x) e = absurd (cc)

  absent : (u : ThreadId) → (state v).thread u ≡ None → not (is_some (live_of v.threads u)) ≡ true
  absent u e = by (live_of v.threads u) e
    where
      by : (q : Option Live) → option_map thread_of q ≡ None → not (is_some q) ≡ true
      by None e = refl
      by (Some x) e = absurd (cc)

  may : (c : Call) (y : Cause) → may_refuse v t c y ≡ true → MayRefuse (state v) t c y
  may (call.Enter o) cause.NoMonitor e = owner_is (held_at v o).owner t e
  may (call.Enter o) cause.Memory e = owner_is (held_at v o).owner t e
  may (call.Enter o) cause.TooDeep e =
      let m = and_parts (owns v t o) ((held_at v o).count == 65535) e in (owner_is (held_at v o).owner t m.0, eqb-true (held_at v o).count 65535 m.1)
  may (call.Wait o millis nanos) cause.NoMonitor e =
      let m = and_parts (owns v t o) (is_good millis nanos) e in (owner_is (held_at v o).owner t m.0, good_time millis nanos m.1)
  may (call.Wait o millis nanos) cause.Memory e =
      let m = and_parts (owns v t o) (is_good millis nanos) e in (owner_is (held_at v o).owner t m.0, good_time millis nanos m.1)
  may (call.Interrupt u) cause.NoThread e = gone u e
  may (call.IsInterrupted u) cause.NoThread e = gone u e
  may call.End cause.StillOwner e =
      let r = one_owned v t v.objects e in
      let o : ObjectId = record { 0 = r.0 } in
      (o, owner_is (held_at v o).owner t r.1)
  may c y e = absurd (cc)

  must : (c : Call) (y : Cause) → MayRefuse (state v) t c y → may_refuse v t c y ≡ true
  must (call.Enter o) cause.NoMonitor h = owner_yes (held_at v o).owner t h
  must (call.Enter o) cause.Memory h = owner_yes (held_at v o).owner t h
  must (call.Enter o) cause.TooDeep h = both_true (owns v t o) ((held_at v o).count == 65535) (owner_yes (held_at v o).owner t h.0) (eq-eqb (held_at v o).count 65535 h.1)
  must (call.Wait o millis nanos) cause.NoMonitor h = both_true (owns v t o) (is_good millis nanos) (owner_yes (held_at v o).owner t h.0) (time_good millis nanos h.1)
  must (call.Wait o millis nanos) cause.Memory h = both_true (owns v t o) (is_good millis nanos) (owner_yes (held_at v o).owner t h.0) (time_good millis nanos h.1)
  must (call.Interrupt u) cause.NoThread h = absent u h
  must (call.IsInterrupted u) cause.NoThread h = absent u h
  must call.End cause.StillOwner h = owned_one v t v.objects h.0.0 (owner_yes (held_at v h.0).owner t h.1)
  must c y h = absurd h

  refuse_right : (y : Cause) (w : MachineState) → refuse_call v t y ≡ Some w → Steps (state v) (move.Refuse t y) (state w)
  refuse_right y w e = by (wanted v t) refl e
    where
      by : (q : Option (Bool × Call)) → wanted v t ≡ q → refuse_for v t y q ≡ Some w → Steps (state v) (move.Refuse t y) (state w)
      by None h e = absurd (cc)
      by (Some (flag, c)) h e =
          let g = guarded (may_refuse v t c y) (put_reply v t flag (reply.Refused y)) w e in
          (flag, c, calls v t flag c h, may c y g.0, answer v t flag (reply.Refused y) w g.1)

  refuse_only : (y : Cause) (s : State) → refuse_call v t y ≡ None → Steps (state v) (move.Refuse t y) s → ⊥
  refuse_only y s e p =
      refused (may_refuse v t p.1 y) (put_reply v t p.0 (reply.Refused y)) (ap (refuse_for v t y) (sym (wanted_as v t p.0 p.1 p.2)) ∙ e) (must p.1 y p.3)

module _ (v : MachineState) where
  time_right : (now : ℕ) (w : MachineState) → time v now ≡ Some w → Steps (state v) (move.Time now) (state w)
  time_right now w e =
      let g = guarded_not (nat_lt now v.moment) (record v { moment = now }) w e in
      (ltb-false now v.moment g.0, sym (ap state g.1))

  time_only : (now : ℕ) (s : State) → time v now ≡ None → Steps (state v) (move.Time now) s → ⊥
  time_only now s e p =
      let late = refused_not (nat_lt now v.moment) (record v { moment = now }) e in
      let less : now < v.moment = ltb-true now v.moment late in
      let most = p.0 in
      omega (arith, less, most)

  -- ---- each move

  pub takes_right : (m : Move) (w : MachineState) → IsSound v → takes v m ≡ Some w → Steps (state v) m (state w)
  takes_right (move.Attach t) w sound e = attach_right v t w e
  takes_right (move.Call t c) w sound e = make_call_right v t c w e
  takes_right (move.Return t r) w sound e = return_right v t r w e
  takes_right (move.Lock t) w sound e = lock_right v t w sound e
  takes_right (move.Unlock t) w sound e = unlock_right v t w sound e
  takes_right (move.Illegal t) w sound e = illegal_right v t w e
  takes_right (move.BadArgument t) w sound e = bad_argument_right v t w sound e
  takes_right (move.Early t) w sound e = early_right v t w sound e
  takes_right (move.Wait t) w sound e = wait_right v t w sound e
  takes_right (move.Notify t (Some u)) w sound e = notify_right v t u w e
  takes_right (move.Notify t None) w sound e = notify_nobody_right v t w e
  takes_right (move.NotifyAll t) w sound e = notify_all_right v t w sound e
  takes_right (move.Interrupt t) w sound e = interrupt_right v t w e
  takes_right (move.TestClear t) w sound e = test_clear_right v t w e
  takes_right (move.Expire t) w sound e = expire_right v t w e
  takes_right (move.Spurious t) w sound e = wake_right v t w e
  takes_right (move.Relock t) w sound e = relock_right v t w sound e
  takes_right (move.Ask t) w sound e = ask_right v t w e
  takes_right (move.Refuse t y) w sound e = refuse_right v t y w e
  takes_right (move.End t) w sound e = end_right v t w e
  takes_right (move.Time now) w sound e = time_right now w e

  pub takes_only : (m : Move) (s : State) → takes v m ≡ None → Steps (state v) m s → ⊥
  takes_only (move.Attach t) s e p = attach_only v t s e p
  takes_only (move.Call t c) s e p = make_call_only v t c s e p
  takes_only (move.Return t r) s e p = return_only v t r s e p
  takes_only (move.Lock t) s e p = lock_only v t s e p
  takes_only (move.Unlock t) s e p = unlock_only v t s e p
  takes_only (move.Illegal t) s e p = illegal_only v t s e p
  takes_only (move.BadArgument t) s e p = bad_argument_only v t s e p
  takes_only (move.Early t) s e p = early_only v t s e p
  takes_only (move.Wait t) s e p = wait_only v t s e p
  takes_only (move.Notify t (Some u)) s e p = notify_only v t u s e p
  takes_only (move.Notify t None) s e p = notify_nobody_only v t s e p
  takes_only (move.NotifyAll t) s e p = notify_all_only v t s e p
  takes_only (move.Interrupt t) s e p = interrupt_only v t s e p
  takes_only (move.TestClear t) s e p = test_clear_only v t s e p
  takes_only (move.Expire t) s e p = expire_only v t s e p
  takes_only (move.Spurious t) s e p = wake_only v t s e p
  takes_only (move.Relock t) s e p = relock_only v t s e p
  takes_only (move.Ask t) s e p = ask_only v t s e p
  takes_only (move.Refuse t y) s e p = refuse_only v t y s e p
  takes_only (move.End t) s e p = end_only v t s e p
  takes_only (move.Time now) s e p = time_only now s e p

-- ---- the answer

-- what the clauses of `take` say
abbrev pub Judges : MachineState → Move → Result (Unit {0}) MoveFault → MachineState → Type 0
Judges v m r w =
    OnOk r (Steps (state v) m (state w)) × ((IsErrOf r Broken → IsUnlawful (state v) m) × (IsUnlawful (state v) m → IsErrOf r Broken))
    × (IsErrOf r Memory → IsAttach m) × OnErr r (w ≡ v)

module _ (v : MachineState) (sound : IsSound v) where
  by_taken : (m : Move) (o : Option MachineState) → takes v m ≡ o → Judges v m (taken v o).answer (taken v o).after
  by_taken m None e = (tt, ((λ _ s p. takes_only v m s e p), (λ _. refl)), (λ h. absurd (cc)), refl)
  by_taken m (Some w) e =
      let right = takes_right v m w sound e in
      (right, ((λ h. absurd (cc)), (λ no. absurd (no (state w) right))), (λ h. absurd (cc)), tt)

  no_room : (t : ThreadId) (o : Option Live) → live_of v.threads t ≡ o
      → Judges v (move.Attach t) (Err (if is_some o then Broken else Memory)) v
  no_room t None e =
      let right = takes_right v (move.Attach t) (put v t false Idle) sound (ap (attach_at v t) e) in
      (tt, ((λ h. absurd (cc)), (λ no. absurd (no (state (put v t false Idle)) right))), (λ _. tt), refl)
  no_room t (Some x) e = (tt, ((λ _ s p. takes_only v (move.Attach t) s (ap (attach_at v t) e) p), (λ _. refl)), (λ _. tt), refl)

  judge : (room : Bool) (m : Move) → Judges v m (after_move room v m).answer (after_move room v m).after
  judge true (move.Attach t) = by_taken (move.Attach t) (attach v t) refl
  judge false (move.Attach t) = no_room t (live_of v.threads t) refl
  judge room m = by_taken m (takes v m) refl

  pub judged : (room : Bool) (m : Move) (r : Result (Unit {0}) MoveFault) (w : MachineState)
      → ◌≡◌ {A = AfterMove} (record { answer = r; after = w }) (after_move room v m) → Judges v m r w
  judged room m r w e = subst (λ (o : AfterMove). Judges v m o.answer o.after) (sym e) (judge room m)
