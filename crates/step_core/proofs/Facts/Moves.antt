-- Runs of the machine that answer a call.
use Rattle.std.specs.Prelude.{◌≡◌, ◌⊎◌, ℕ, ◌+◌, ◌<◌, Bool, true, false, if◌then◌else◌, ◌==◌, [], ◌∷◌, Option, Some, None, ℤ}
use Rattle.std.proofs.Common.{arith, refl, ap, sym, ◌∙◌, inl}
use Rattle.std.proofs.Math.Path.{fun_ext}
use Rattle.std.proofs.lemmas.Bool.{cond_both, eqb-true, ne_eqb}
use Rattle.std.specs.Option.{option_map}
use Rattle.fat_monitor.specs.declared.actions.Why.{Why}
use Rattle.fat_monitor.specs.declared.actions.Why.TheVariants as why
use Rattle.lock_word.specs.declared.ThreadId.{ThreadId}
use Rattle.lock_word.specs.declared.ObjectId.{ObjectId}
use Rattle.fat_monitor.specs.declared.actions.Cause.{Cause}
use Rattle.fat_monitor.specs.declared.actions.Reply.{Reply}
use Rattle.fat_monitor.specs.declared.actions.Reply.TheVariants as reply
use Rattle.fast_path.specs.declared.calls.Call.{Call}
use Rattle.fast_path.specs.declared.calls.Call.TheVariants as call
use Rattle.step_core.specs.declared.machine.Doing.{Doing}
use Rattle.step_core.specs.declared.machine.Doing.TheVariants.{Idle, Wants, Waits, Back, Has}
use Rattle.step_core.specs.declared.machine.Move.{Move}
use Rattle.step_core.specs.declared.machine.Move.TheVariants as move
use Rattle.fat_monitor.specs.Replies.{yes_or_no}
use Rattle.step_core.specs.Machine.{State, Thread, Monitor, Steps, Run, free, held, with_thread, with_monitor, Is, now_is, with_reply, OwnedBy, Unowned, Calls, MayRefuse, AreGood, NobodyWaits, all_notified, after_notify_all, with_interrupt, reply_of, flag_back, owner_only}

-- objects with one number are one object
pub one_object : (p o : ObjectId) → p.0 ≡ o.0 → p ≡ o
one_object p o e = ap (λ (n : ℕ). let x : ObjectId = record { 0 = n } in x) e

if_twice : {A : Type 0} (b : Bool) (y x z : A) → (if b then y else (if b then x else z)) ≡ (if b then y else z)
if_twice true y x z = refl
if_twice false y x z = refl

-- the later of two writes at one thread stays
pub with_thread-with_thread : (s : State) (t : ThreadId) (x y : Option Thread) → with_thread (with_thread s t x) t y ≡ with_thread s t y
with_thread-with_thread s t x y =
    ap (λ (f : ThreadId → Option Thread). record s { thread = f })
    (fun_ext (λ u. if_twice (u.0 == t.0) y x (s.thread u)))

-- a thread is what was written
pub now_is-Is : (s : State) (t : ThreadId) (flag : Bool) (d : Doing) → Is (now_is s t flag d) t flag d
now_is-Is s t flag d = grind arith

-- a lock of an object that is free or one's own
pub run_lock : (s : State) (t : ThreadId) (flag : Bool) (o : ObjectId) (n : ℕ) → Calls s t flag (call.Enter o)
    → (Unowned s o ⊎ OwnedBy s o t) → (s.monitor o).count ≡ n → n < 65535
    → Run s (move.Lock t ∷ []) (with_monitor (now_is s t flag (Has reply.Entered)) o (held t (n + 1)))
run_lock s t flag o n calls may count few =
    rw (← count) (with_monitor (now_is s t flag (Has reply.Entered)) o (held t ((s.monitor o).count + 1)), (flag, o, calls, may, omega arith, refl), refl)

-- a reply that ends a call and not its thread
abbrev pub IsPlain : Reply → Type 0
IsPlain reply.Entered = Unit {0}
IsPlain reply.Exited = Unit {0}
IsPlain reply.WaitOver = Unit {0}
IsPlain reply.Interrupted = Unit {0}
IsPlain reply.Done = Unit {0}
IsPlain reply.Notified = Unit {0}
IsPlain reply.Yes = Unit {0}
IsPlain reply.No = Unit {0}
IsPlain reply.Ended = ⊥
IsPlain reply.IllegalMonitorState = Unit {0}
IsPlain reply.IllegalArgument = Unit {0}
IsPlain (reply.Refused c) = Unit {0}

-- such a reply is returned
pub return_row : (s : State) (t : ThreadId) (flag : Bool) (r : Reply) → IsPlain r → Is s t flag (Has r) → Steps s (move.Return t r) (now_is s t flag Idle)
return_row s t flag reply.Entered p h = (flag, h, refl)
return_row s t flag reply.Exited p h = (flag, h, refl)
return_row s t flag reply.WaitOver p h = (flag, h, refl)
return_row s t flag reply.Interrupted p h = (flag, h, refl)
return_row s t flag reply.Done p h = (flag, h, refl)
return_row s t flag reply.Notified p h = (flag, h, refl)
return_row s t flag reply.Yes p h = (flag, h, refl)
return_row s t flag reply.No p h = (flag, h, refl)
return_row s t flag reply.Ended p h = absurd p
return_row s t flag reply.IllegalMonitorState p h = (flag, h, refl)
return_row s t flag reply.IllegalArgument p h = (flag, h, refl)
return_row s t flag (reply.Refused c) p h = (flag, h, refl)

-- the state with the call over, and this monitor
abbrev pub over : State → ThreadId → Bool → ObjectId → Monitor → State
over s t flag o m = with_monitor (now_is s t flag Idle) o m

-- one move that answers, and the return; it may change another thread
pub run_told : (s s1 : State) (t : ThreadId) (flag : Bool) (r : Reply) (m : Move) → IsPlain r
    → Steps s m (with_reply s1 t flag r) → Run s (m ∷ move.Return t r ∷ []) (now_is s1 t flag Idle)
run_told s s1 t flag r m plain step = (
  with_reply s1 t flag r,
  step,
  (
    now_is s1 t flag Idle,
    rw (← with_thread-with_thread s1 t (Some (record { flag = flag; act = Has r })) (Some (record { flag = flag; act = Idle }))) (return_row (with_reply s1 t flag r) t flag r plain (now_is-Is s1 t flag (Has r))),
    refl,
  ),
)

pub run_replied : (s : State) (t : ThreadId) (flag : Bool) (r : Reply) (m : Move) → IsPlain r
    → Steps s m (with_reply s t flag r) → Run s (m ∷ move.Return t r ∷ []) (now_is s t flag Idle)
run_replied s t flag r m plain step = run_told s s t flag r m plain step

-- the same, where the move changes a monitor
pub run_changed : (s : State) (t : ThreadId) (flag : Bool) (r : Reply) (m : Move) (o : ObjectId) (x : Monitor) → IsPlain r
    → Steps s m (with_monitor (with_reply s t flag r) o x) → Run s (m ∷ move.Return t r ∷ []) (over s t flag o x)
run_changed s t flag r m o x plain step = (
  with_monitor (with_reply s t flag r) o x,
  step,
  (
    over s t flag o x,
    rw (← with_thread-with_thread s t (Some (record { flag = flag; act = Has r })) (Some (record { flag = flag; act = Idle }))) (return_row (with_monitor (with_reply s t flag r) o x) t flag r plain (now_is-Is s t flag (Has r))),
    refl,
  ),
)

-- a first or nested lock
pub run_entered : (s : State) (t : ThreadId) (flag : Bool) (o : ObjectId) (n : ℕ) → Calls s t flag (call.Enter o)
    → (Unowned s o ⊎ OwnedBy s o t) → (s.monitor o).count ≡ n → n < 65535
    → Run s (move.Lock t ∷ move.Return t reply.Entered ∷ []) (over s t flag o (held t (n + 1)))
run_entered s t flag o n calls may count few =
    rw (← count) (run_changed s t flag reply.Entered (move.Lock t) o (held t ((s.monitor o).count + 1)) tt (flag, o, calls, may, omega arith, refl))

pub run_exited : (s : State) (t : ThreadId) (flag : Bool) (o : ObjectId) (n : ℕ) → Calls s t flag (call.Exit o)
    → s.monitor o ≡ held t (n + 1)
    → Run s (move.Unlock t ∷ move.Return t reply.Exited ∷ []) (over s t flag o (if n == 0 then free else held t n))
run_exited s t flag o n calls owned = run_changed s t flag reply.Exited (move.Unlock t) o (if n == 0 then free else held t n) tt (flag, o, n, calls, owned, refl)

pub run_illegal : (s : State) (t : ThreadId) (flag : Bool) (c : Call) (o : ObjectId) → owner_only c ≡ Some o → Calls s t flag c
    → (OwnedBy s o t → ⊥)
    → Run s (move.Illegal t ∷ move.Return t reply.IllegalMonitorState ∷ []) (now_is s t flag Idle)
run_illegal s t flag c o only calls other = run_replied s t flag reply.IllegalMonitorState (move.Illegal t) tt (flag, c, o, calls, only, other, refl)

pub run_bad : (s : State) (t : ThreadId) (flag : Bool) (o : ObjectId) (millis nanos : ℤ) → Calls s t flag (call.Wait o millis nanos)
    → OwnedBy s o t → (AreGood millis nanos → ⊥)
    → Run s (move.BadArgument t ∷ move.Return t reply.IllegalArgument ∷ []) (now_is s t flag Idle)
run_bad s t flag o millis nanos calls owned bad =
    run_replied s t flag reply.IllegalArgument (move.BadArgument t) tt (flag, o, millis, nanos, calls, owned, bad, refl)

-- a notify where nobody waits
pub run_unnoticed : (s : State) (t : ThreadId) (flag : Bool) (o : ObjectId) → Calls s t flag (call.Notify o) → OwnedBy s o t → NobodyWaits s o
    → Run s (move.Notify t None ∷ move.Return t reply.Notified ∷ []) (now_is s t flag Idle)
run_unnoticed s t flag o calls owned nobody = run_replied s t flag reply.Notified (move.Notify t None) tt (flag, o, calls, owned, nobody, refl)

-- and a notifyAll there: who does not wait is not woken
woken_same : (s : State) (o : ObjectId) → NobodyWaits s o → all_notified s o ≡ s
woken_same s o nobody = ap (λ (f : ThreadId → Option Thread). record s { thread = f }) (fun_ext (λ u. at_one u (s.thread u) refl))
  where
    by_act : (u : ThreadId) (flag : Bool) (d : Doing) → s.thread u ≡ Some (record { flag = flag; act = d }) → after_notify_all o d ≡ d
    by_act u flag Idle e = refl
    by_act u flag (Wants c) e = refl
    by_act u flag (Waits p n d) e =
        cond_both (p.0 == o.0) (Back p n why.Notified) (Waits p n d) (λ x. x ≡ Waits p n d)
        (λ same. absurd (nobody u flag n d (rw (← one_object p o (eqb-true p.0 o.0 same)) e))) (λ _. refl)
    by_act u flag (Back p n w) e = refl
    by_act u flag (Has r) e = refl

    at_one : (u : ThreadId) (x : Option Thread) → s.thread u ≡ x → option_map (λ y. record { flag = y.flag; act = after_notify_all o y.act }) x ≡ x
    at_one u None e = refl
    at_one u (Some x) e = ap (λ (d : Doing). Some (record { flag = x.flag; act = d })) (by_act u x.flag x.act e)

pub run_unnoticed_all : (s : State) (t : ThreadId) (flag : Bool) (o : ObjectId) → Calls s t flag (call.NotifyAll o) → OwnedBy s o t → NobodyWaits s o
    → Run s (move.NotifyAll t ∷ move.Return t reply.Notified ∷ []) (now_is s t flag Idle)
run_unnoticed_all s t flag o calls owned nobody =
    run_replied s t flag reply.Notified (move.NotifyAll t) tt (flag, o, calls, owned, ap (λ (x : State). with_reply x t flag reply.Notified) (sym (woken_same s o nobody)))

pub run_yes : (s : State) (t : ThreadId) (flag : Bool) (o : ObjectId) → Calls s t flag (call.Holds o)
    → OwnedBy s o t
    → Run s (move.Ask t ∷ move.Return t reply.Yes ∷ []) (now_is s t flag Idle)
run_yes s t flag o calls owned = run_replied s t flag reply.Yes (move.Ask t) tt (flag, true, call.Holds o, calls, ((λ _. owned), (λ _. refl)), refl)

pub run_no : (s : State) (t : ThreadId) (flag : Bool) (o : ObjectId) → Calls s t flag (call.Holds o)
    → (OwnedBy s o t → ⊥)
    → Run s (move.Ask t ∷ move.Return t reply.No ∷ []) (now_is s t flag Idle)
run_no s t flag o calls other = run_replied s t flag reply.No (move.Ask t) tt (flag, false, call.Holds o, calls, ((λ e. absurd (cc)), (λ h. absurd (other h))), refl)

pub run_refused : (s : State) (t : ThreadId) (flag : Bool) (c : Call) (cause : Cause) → Calls s t flag c
    → MayRefuse s t c cause
    → Run s (move.Refuse t cause ∷ move.Return t (reply.Refused cause) ∷ []) (now_is s t flag Idle)
run_refused s t flag c cause calls may = run_replied s t flag (reply.Refused cause) (move.Refuse t cause) tt (flag, c, calls, may, refl)

-- a reply that was there is handed out
pub run_returned : (s : State) (t : ThreadId) (flag : Bool) (r : Reply) → IsPlain r → Is s t flag (Has r)
    → Run s (move.Return t r ∷ []) (now_is s t flag Idle)
run_returned s t flag r plain h = (now_is s t flag Idle, return_row s t flag r plain h, refl)

-- what two threads are after three writes, of which the last two count
two_writes : {A : Type 0} (b c : Bool) (x y z v : A) → (if b then x else (if c then y else (if b then z else v))) ≡ (if b then x else (if c then y else v))
two_writes true c x y z v = refl
two_writes false true x y z v = refl
two_writes false false x y z v = refl

-- another thread than the one that is written is what it was
pub now_is-other : (s : State) (t u : ThreadId) (flag : Bool) (d : Doing) → (t.0 ≡ u.0 → ⊥) → (now_is s u flag d).thread t ≡ s.thread t
now_is-other s t u flag d ne = rw (ne_eqb t.0 u.0 ne) refl

-- the later of two writes at one monitor stays
pub with_monitor-with_monitor : (s : State) (o : ObjectId) (x y : Monitor) → with_monitor (with_monitor s o x) o y ≡ with_monitor s o y
with_monitor-with_monitor s o x y =
    ap (λ (f : ObjectId → Monitor). record s { monitor = f }) (fun_ext (λ p. if_twice (p.0 == o.0) y x (s.monitor p)))

-- a free monitor goes to a thread that wants to enter, or to one that comes back from a wait
pub grant_lock : (s : State) (u : ThreadId) (flag : Bool) (o : ObjectId) → Is s u flag (Wants (call.Enter o)) → s.monitor o ≡ free
    → Steps s (move.Lock u) (with_monitor (now_is s u flag (Has reply.Entered)) o (held u 1))
grant_lock s u flag o is unowned =
    let few : (s.monitor o).count < 65535 = rw unowned (omega arith) in
    (flag, o, is, inl (rw unowned refl), few, sym (ap (λ (x : Monitor). with_monitor (with_reply s u flag reply.Entered) o (held u (x.count + 1))) unowned))

pub grant_relock : (s : State) (u : ThreadId) (flag : Bool) (o : ObjectId) (n : ℕ) (w : Why) → Is s u flag (Back o n w) → s.monitor o ≡ free
    → Steps s (move.Relock u) (with_monitor (now_is s u (flag_back w flag) (Has (reply_of w))) o (held u n))
grant_relock s u flag o n w is unowned = (flag, o, n, w, is, rw unowned refl, refl)

-- t gives up a monitor by the first of two moves, and u is granted it by the other; their flags are these then
module _ (s : State) (t u : ThreadId) (mine theirs : Bool) (o : ObjectId) (n : ℕ) (r : Reply) (d : Doing) (first grant : Move)
    (gives : Steps s first (with_monitor (now_is s t mine d) o free))
    (grants : Steps (with_monitor (now_is s t mine d) o free) grant (with_monitor (now_is (with_monitor (now_is s t mine d) o free) u theirs (Has r)) o (held u n))) where
  pub run_handed : Run s (first ∷ grant ∷ []) (with_monitor (now_is (now_is s t mine d) u theirs (Has r)) o (held u n))
  run_handed = (
    with_monitor (now_is s t mine d) o free,
    gives,
    (
      with_monitor (now_is (with_monitor (now_is s t mine d) o free) u theirs (Has r)) o (held u n),
      grants,
      sym (with_monitor-with_monitor (now_is (now_is s t mine d) u theirs (Has r)) o free (held u n)),
    ),
  )

  -- and t returns with its reply
  pub run_handed_over : (q : Reply) → d ≡ Has q → IsPlain q → (t.0 ≡ u.0 → ⊥)
      → Run s (first ∷ grant ∷ move.Return t q ∷ []) (with_monitor (now_is (now_is s u theirs (Has r)) t mine Idle) o (held u n))
  run_handed_over q e plain apart = (
    with_monitor (now_is s t mine d) o free,
    gives,
    (
      with_monitor (now_is (with_monitor (now_is s t mine d) o free) u theirs (Has r)) o (held u n),
      grants,
      (
        now_is (with_monitor (now_is (with_monitor (now_is s t mine d) o free) u theirs (Has r)) o (held u n)) t mine Idle,
        return_row (with_monitor (now_is (with_monitor (now_is s t mine d) o free) u theirs (Has r)) o (held u n)) t mine q plain
            (now_is-other (now_is s t mine d) t u theirs (Has r) apart ∙ ap (λ (x : Doing). (now_is s t mine x).thread t) e ∙ now_is-Is s t mine (Has q)),
        sym (at_last),
      ),
    ),
  ) where
    at_last : now_is (with_monitor (now_is (with_monitor (now_is s t mine d) o free) u theirs (Has r)) o (held u n)) t mine Idle
        ≡ with_monitor (now_is (now_is s u theirs (Has r)) t mine Idle) o (held u n)
    at_last =
        ap (λ (x : State). now_is x t mine Idle) (with_monitor-with_monitor (now_is (now_is s t mine d) u theirs (Has r)) o free (held u n))
        ∙ ap (λ (f : ThreadId → Option Thread). record (with_monitor s o (held u n)) { thread = f })
        (fun_ext (λ v. two_writes (v.0 == t.0) (v.0 == u.0) (Some (record { flag = mine; act = Idle })) (Some (record { flag = theirs; act = Has r })) (Some (record { flag = mine; act = d })) (s.thread v)))

-- t notifies u, which waits
pub run_notified : (s : State) (t u : ThreadId) (mine theirs : Bool) (o : ObjectId) (n : ℕ) (d : Option ℕ) → Calls s t mine (call.Notify o) → OwnedBy s o t
    → Is s u theirs (Waits o n d) → (t.0 ≡ u.0 → ⊥)
    → Run s (move.Notify t (Some u) ∷ move.Return t reply.Notified ∷ []) (now_is (now_is s u theirs (Back o n why.Notified)) t mine Idle)
run_notified s t u mine theirs o n d calls owned waits apart = (
  now_is (with_reply s t mine reply.Notified) u theirs (Back o n why.Notified),
  (mine, o, calls, owned, theirs, n, d, waits, refl),
  (
    now_is (now_is (with_reply s t mine reply.Notified) u theirs (Back o n why.Notified)) t mine Idle,
    return_row (now_is (with_reply s t mine reply.Notified) u theirs (Back o n why.Notified)) t mine reply.Notified tt
        (now_is-other (with_reply s t mine reply.Notified) t u theirs (Back o n why.Notified) apart ∙ now_is-Is s t mine (Has reply.Notified)),
    ap (λ (f : ThreadId → Option Thread). record s { thread = f })
        (fun_ext (λ v. sym (two_writes (v.0 == t.0) (v.0 == u.0) (Some (record { flag = mine; act = Idle })) (Some (record { flag = theirs; act = Back o n why.Notified })) (Some (record { flag = mine; act = Has reply.Notified })) (s.thread v)))),
  ),
)

-- t notifies all that wait
pub run_notified_all : (s : State) (t : ThreadId) (mine : Bool) (o : ObjectId) → Calls s t mine (call.NotifyAll o) → OwnedBy s o t
    → Run s (move.NotifyAll t ∷ move.Return t reply.Notified ∷ []) (now_is (all_notified s o) t mine Idle)
run_notified_all s t mine o calls owned = run_told s (all_notified s o) t mine reply.Notified (move.NotifyAll t) tt (mine, o, calls, owned, refl)

-- a wait of an interrupted thread does not begin
pub run_early : (s : State) (t : ThreadId) (o : ObjectId) (millis nanos : ℤ) → Calls s t true (call.Wait o millis nanos) → OwnedBy s o t → AreGood millis nanos
    → Run s (move.Early t ∷ move.Return t reply.Interrupted ∷ []) (now_is s t false Idle)
run_early s t o millis nanos calls owned good = run_replied s t false reply.Interrupted (move.Early t) tt (o, millis, nanos, calls, owned, good, refl)

-- t interrupts itself, or another thread
pub run_interrupted : (s : State) (t u : ThreadId) (flag : Bool) (x : Thread) → Calls s t flag (call.Interrupt u) → s.thread u ≡ Some x
    → Run s (move.Interrupt t ∷ move.Return t reply.Done ∷ []) (now_is (with_thread s u (Some (with_interrupt x))) t (if t.0 == u.0 then true else flag) Idle)
run_interrupted s t u flag x calls live =
    run_told s (with_thread s u (Some (with_interrupt x))) t (if t.0 == u.0 then true else flag) reply.Done (move.Interrupt t) tt (flag, u, x, calls, live, refl)

-- t asks whether it is interrupted, and is not any more then
pub run_tested : (s : State) (t : ThreadId) (flag : Bool) → Calls s t flag call.Interrupted
    → Run s (move.TestClear t ∷ move.Return t (yes_or_no flag) ∷ []) (now_is s t false Idle)
run_tested s t true calls = run_replied s t false reply.Yes (move.TestClear t) tt (true, calls, refl)
run_tested s t false calls = run_replied s t false reply.No (move.TestClear t) tt (false, calls, refl)

-- t asks whether another thread is
pub run_asked : (s : State) (t u : ThreadId) (flag answer : Bool) (x : Thread) → Calls s t flag (call.IsInterrupted u) → s.thread u ≡ Some x → answer ≡ x.flag
    → Run s (move.Ask t ∷ move.Return t (yes_or_no answer) ∷ []) (now_is s t flag Idle)
run_asked s t u flag true x calls live e = run_replied s t flag reply.Yes (move.Ask t) tt (flag, true, call.IsInterrupted u, calls, (x, live, e), refl)
run_asked s t u flag false x calls live e = run_replied s t flag reply.No (move.Ask t) tt (flag, false, call.IsInterrupted u, calls, (x, live, e), refl)

-- a thread that owns nothing ends
pub run_ended : (s : State) (t : ThreadId) (flag : Bool) → Calls s t flag call.End → ((o : ObjectId) → OwnedBy s o t → ⊥)
    → Run s (move.End t ∷ move.Return t reply.Ended ∷ []) (with_thread s t None)
run_ended s t flag calls none = (
  with_reply s t flag reply.Ended,
  (flag, calls, none, refl),
  (
    with_thread s t None,
    (flag, now_is-Is s t flag (Has reply.Ended), sym (with_thread-with_thread s t (Some (record { flag = flag; act = Has reply.Ended })) None)),
    refl,
  ),
)
