-- What threads are doing where the machine can make no move that the program leaves to it, but for refusals for want:
-- there it can make none of these, either.
use native.Mathlib.Omega.{arith}
use Rattle.std.proofs.Common.{◌≡◌, ◌∙◌, ◌⊎◌, ℤ, inl, inr, ap, refl, ℕ, ◌+◌, ◌-◌, ◌<◌, ◌≤◌, List, Option, Some, None, Bool, true, false}
use Rattle.std.specs.Prelude.{IfSome}
use Rattle.std.proofs.lemmas.Bool.{cases_lt}
use Rattle.lock_word.specs.declared.ObjectId.{ObjectId}
use Rattle.lock_word.specs.declared.ThreadId.{ThreadId}
use Rattle.fat_monitor.specs.declared.actions.Cause.{Cause}
use Rattle.fat_monitor.specs.declared.actions.Cause.TheVariants as cause
use Rattle.fat_monitor.specs.declared.actions.Reply.{Reply}
use Rattle.fat_monitor.specs.declared.actions.Reply.TheVariants as reply
use Rattle.fat_monitor.specs.declared.actions.Why.{Why}
use Rattle.fast_path.specs.declared.calls.Call.{Call}
use Rattle.fast_path.specs.declared.calls.Call.TheVariants as call
use Rattle.step_core.specs.declared.machine.Doing.{Doing}
use Rattle.step_core.specs.declared.machine.Doing.TheVariants.{Idle, Wants, Waits, Back, Has}
use Rattle.step_core.specs.declared.machine.Move.{Move}
use Rattle.step_core.specs.declared.machine.Move.TheVariants as move
use Rattle.step_core.specs.Machine.{AreGood, Calls, Is, IsAnswer, MayRefuse, NobodyWaits, OwnedBy, State, Steps, Thread, Unowned, free}
use Rattle.explore.specs.declared.programs.Program.{Program}
use Rattle.explore_java.specs.JavaRuns.{IsBlocked, IsLeft, Rests, is_for_want}
use Rattle.explore_java.specs.JavaStates.{is_want}
use Rattle.explore_java.proofs.Locks.{AreRight}

-- a move that any program leaves to the machine, and that is no refusal for want
abbrev pub IsOwn : Move → Type 0
IsOwn m = (is_for_want m ≡ false) × ((p : Program) (ms : List Move) → IsLeft p ms m)

-- None of these can be made in a state. What a thread is doing there is seen from this alone.
module _ (x : State) (right : AreRight x) (none : (m : Move) (y : State) → IsOwn m → Steps x m y → ⊥) where
  module _ (t : ThreadId) (flag : Bool) where
    never_locked : (o : ObjectId) → Calls x t flag (call.Enter o) → Unowned x o ⊎ OwnedBy x o t → ⊥
    never_locked o calls (inl free) =
        let zero = (right.counts o).none free in
        none (move.Lock t) _ (refl, λ p ms. tt) (flag, o, calls, inl free, omega (arith, zero), refl)
    never_locked o calls (inr owned) = by (cases_lt (x.monitor o).count 65535)
      where
        by : ((x.monitor o).count < 65535) ⊎ (65535 ≤ (x.monitor o).count) → ⊥
        by (inl lt) = none (move.Lock t) _ (refl, λ p ms. tt) (flag, o, calls, inr owned, lt, refl)
        by (inr le) =
            let most = (right.counts o).most in
            none (move.Refuse t cause.TooDeep) _ (refl, λ p ms. tt) (flag, call.Enter o, calls, (owned, omega (arith, le, most)), refl)

    -- where nobody owns the object, and this thread does not, another one does
    blocked : (o : ObjectId) → (Unowned x o ⊎ OwnedBy x o t → ⊥) → IsBlocked x t o
    blocked o neither = by (x.monitor o).owner refl
      where
        by : (u : Option ThreadId) → (x.monitor o).owner ≡ u → IsBlocked x t o
        by None is = absurd (neither (inl is))
        by (Some u) is = (u, is, λ same. neither (inr (is ∙ ap (λ (v : ThreadId). Some v) same)))

    never_exits : (o : ObjectId) → Calls x t flag (call.Exit o) → ⊥
    never_exits o calls = none (move.Illegal t) _ (refl, λ p ms. tt) (flag, call.Exit o, o, calls, refl, (λ owned. owner_exits owned), refl)
      where
        owner_exits : OwnedBy x o t → ⊥
        owner_exits owned =
            let n = (x.monitor o).count in
            let some = (right.counts o).some t owned in
            let back : n ≡ n - 1 + 1 = omega (arith, some) in
            none (move.Unlock t) _ (refl, λ p ms. tt) (flag, o, n - 1, calls, (λ i. record { owner = owned i; count = back i }), refl)

    never_waits : (o : ObjectId) (millis nanos : ℤ) → Calls x t flag (call.Wait o millis nanos) → ⊥
    never_waits o millis nanos calls = none (move.Illegal t) _ (refl, λ p ms. tt) (flag, call.Wait o millis nanos, o, calls, refl, (λ owned. owner_waits owned), refl)
      where
        in_range : (b : Bool) → Calls x t b (call.Wait o millis nanos) → OwnedBy x o t → AreGood millis nanos → ⊥
        in_range true called owned good = none (move.Early t) _ (refl, λ p ms. tt) (o, millis, nanos, called, owned, good, refl)
        in_range false called owned good = none (move.Wait t) _ (refl, λ p ms. tt) (o, millis, nanos, called, owned, good, refl)

        owner_waits : OwnedBy x o t → ⊥
        owner_waits owned = none (move.BadArgument t) _ (refl, λ p ms. tt) (flag, o, millis, nanos, calls, owned, in_range flag calls owned, refl)

    never_notifies : (o : ObjectId) → Calls x t flag (call.Notify o) → ⊥
    never_notifies o calls = none (move.Illegal t) _ (refl, λ p ms. tt) (flag, call.Notify o, o, calls, refl, (λ owned. owner_notifies owned), refl)
      where
        nobody : OwnedBy x o t → NobodyWaits x o
        nobody owned u other n d is = none (move.Notify t (Some u)) _ (refl, λ p ms. tt) (flag, o, calls, owned, other, n, d, is, refl)

        owner_notifies : OwnedBy x o t → ⊥
        owner_notifies owned = none (move.Notify t None) _ (refl, λ p ms. tt) (flag, o, calls, owned, nobody owned, refl)

    never_notifies_all : (o : ObjectId) → Calls x t flag (call.NotifyAll o) → ⊥
    never_notifies_all o calls = none (move.Illegal t) _ (refl, λ p ms. tt) (flag, call.NotifyAll o, o, calls, refl, (λ owned. owner_notifies owned), refl)
      where
        owner_notifies : OwnedBy x o t → ⊥
        owner_notifies owned = none (move.NotifyAll t) _ (refl, λ p ms. tt) (flag, o, calls, owned, refl)

    never_asks : (o : ObjectId) → Calls x t flag (call.Holds o) → ⊥
    never_asks o calls = asks false (λ e. absurd (cc), λ owned. absurd (asks true (λ e. owned, λ h. refl)))
      where
        asks : (answer : Bool) → IsAnswer x t (call.Holds o) answer → ⊥
        asks answer right = none (move.Ask t) _ (refl, λ p ms. tt) (flag, answer, call.Holds o, calls, right, refl)

    never_interrupts : (u : ThreadId) → Calls x t flag (call.Interrupt u) → ⊥
    never_interrupts u calls = by (x.thread u) refl
      where
        by : (y : Option Thread) → x.thread u ≡ y → ⊥
        by None is = none (move.Refuse t cause.NoThread) _ (refl, λ p ms. tt) (flag, call.Interrupt u, calls, is, refl)
        by (Some y) is = none (move.Interrupt t) _ (refl, λ p ms. tt) (flag, u, y, calls, is, refl)

    never_asks_of : (u : ThreadId) → Calls x t flag (call.IsInterrupted u) → ⊥
    never_asks_of u calls = by (x.thread u) refl
      where
        by : (y : Option Thread) → x.thread u ≡ y → ⊥
        by None is = none (move.Refuse t cause.NoThread) _ (refl, λ p ms. tt) (flag, call.IsInterrupted u, calls, is, refl)
        by (Some y) is = none (move.Ask t) _ (refl, λ p ms. tt) (flag, y.flag, call.IsInterrupted u, calls, (y, is, refl), refl)

    never_ends : Calls x t flag call.End → ⊥
    never_ends calls = none (move.End t) _ (refl, λ p ms. tt) (flag, calls, (λ o owned. owner_ends o owned), refl)
      where
        owner_ends : (o : ObjectId) → OwnedBy x o t → ⊥
        owner_ends o owned = none (move.Refuse t cause.StillOwner) _ (refl, λ p ms. tt) (flag, call.End, calls, (o, owned), refl)

    wants : (c : Call) → Calls x t flag c → (o : ObjectId) × (c ≡ call.Enter o) × IsBlocked x t o
    wants (call.Enter o) calls = (o, refl, blocked o (never_locked o calls))
    wants (call.Exit o) calls = absurd (never_exits o calls)
    wants (call.Wait o millis nanos) calls = absurd (never_waits o millis nanos calls)
    wants (call.Notify o) calls = absurd (never_notifies o calls)
    wants (call.NotifyAll o) calls = absurd (never_notifies_all o calls)
    wants (call.Holds o) calls = absurd (never_asks o calls)
    wants (call.Interrupt u) calls = absurd (never_interrupts u calls)
    wants call.Interrupted calls = absurd (none (move.TestClear t) _ (refl, λ p ms. tt) (flag, calls, refl))
    wants (call.IsInterrupted u) calls = absurd (never_asks_of u calls)
    wants call.End calls = absurd (never_ends calls)

    never_has : (r : Reply) → Is x t flag (Has r) → ⊥
    never_has reply.Ended is = none (move.Return t reply.Ended) _ (refl, λ p ms. tt) (flag, is, refl)
    never_has reply.Entered is = none (move.Return t reply.Entered) _ (refl, λ p ms. tt) (flag, is, refl)
    never_has reply.Exited is = none (move.Return t reply.Exited) _ (refl, λ p ms. tt) (flag, is, refl)
    never_has reply.WaitOver is = none (move.Return t reply.WaitOver) _ (refl, λ p ms. tt) (flag, is, refl)
    never_has reply.Interrupted is = none (move.Return t reply.Interrupted) _ (refl, λ p ms. tt) (flag, is, refl)
    never_has reply.Notified is = none (move.Return t reply.Notified) _ (refl, λ p ms. tt) (flag, is, refl)
    never_has reply.Yes is = none (move.Return t reply.Yes) _ (refl, λ p ms. tt) (flag, is, refl)
    never_has reply.No is = none (move.Return t reply.No) _ (refl, λ p ms. tt) (flag, is, refl)
    never_has reply.Done is = none (move.Return t reply.Done) _ (refl, λ p ms. tt) (flag, is, refl)
    never_has reply.IllegalMonitorState is = none (move.Return t reply.IllegalMonitorState) _ (refl, λ p ms. tt) (flag, is, refl)
    never_has reply.IllegalArgument is = none (move.Return t reply.IllegalArgument) _ (refl, λ p ms. tt) (flag, is, refl)
    never_has (reply.Refused c) is = none (move.Return t (reply.Refused c)) _ (refl, λ p ms. tt) (flag, is, refl)

    comes_back : (o : ObjectId) (n : ℕ) (w : Why) → Is x t flag (Back o n w) → IsBlocked x t o
    comes_back o n w is = blocked o (λ either. by either)
      where
        by : Unowned x o ⊎ OwnedBy x o t → ⊥
        by (inl free) = none (move.Relock t) _ (refl, λ p ms. tt) (flag, o, n, w, is, free, refl)
        by (inr owned) = right.apart t _ o is refl owned

    waits : (o : ObjectId) (n : ℕ) (d : Option ℕ) → Is x t flag (Waits o n d) → IfSome d (λ over. x.moment < over)
    waits o n None is = tt
    waits o n (Some over) is = by (cases_lt x.moment over)
      where
        by : (x.moment < over) ⊎ (over ≤ x.moment) → x.moment < over
        by (inl lt) = lt
        by (inr le) = absurd (none (move.Expire t) _ (refl, λ p ms. tt) (flag, o, n, over, is, le, refl))

    pub at_rest : (p : Program) (d : Doing) → ((y : State) → p.spurious ≡ true → Steps x (move.Spurious t) y → ⊥) → Is x t flag d → Rests p x t d
    at_rest p Idle sleeps is = tt
    at_rest p (Wants c) sleeps is = wants c is
    at_rest p (Waits o n d) sleeps is = (waits o n d is, λ may. sleeps _ may (flag, o, n, d, is, refl))
    at_rest p (Back o n w) sleeps is = comes_back o n w is
    at_rest p (Has r) sleeps is = absurd (never_has r is)

-- a refusal for want is not all that can be done
pub no_want : (x y : State) (m : Move) → AreRight x → ((n : Move) (z : State) → IsOwn n → Steps x n z → ⊥) → is_for_want m ≡ true → Steps x m y → ⊥
no_want x y (move.Refuse t c) right none want h = by h.1 c want h.2 h.3
  where
    by : (k : Call) (c : Cause) → is_want c ≡ true → Calls x t h.0 k → MayRefuse x t k c → ⊥
    by k cause.TooDeep w = absurd (cc)
    by k cause.StillOwner w = absurd (cc)
    by k cause.NoThread w = absurd (cc)
    by (call.Enter o) cause.NoMonitor w = λ calls may. never_locked x right none t h.0 o calls (inr may)
    by (call.Enter o) cause.Memory w = λ calls may. never_locked x right none t h.0 o calls (inr may)
    by (call.Wait o millis nanos) cause.NoMonitor w = λ calls may. never_waits x right none t h.0 o millis nanos calls
    by (call.Wait o millis nanos) cause.Memory w = λ calls may. never_waits x right none t h.0 o millis nanos calls
    by (call.Exit o) cause.NoMonitor w = λ calls may. may
    by (call.Exit o) cause.Memory w = λ calls may. may
    by (call.Notify o) cause.NoMonitor w = λ calls may. may
    by (call.Notify o) cause.Memory w = λ calls may. may
    by (call.NotifyAll o) cause.NoMonitor w = λ calls may. may
    by (call.NotifyAll o) cause.Memory w = λ calls may. may
    by (call.Holds o) cause.NoMonitor w = λ calls may. may
    by (call.Holds o) cause.Memory w = λ calls may. may
    by (call.Interrupt u) cause.NoMonitor w = λ calls may. may
    by (call.Interrupt u) cause.Memory w = λ calls may. may
    by call.Interrupted cause.NoMonitor w = λ calls may. may
    by call.Interrupted cause.Memory w = λ calls may. may
    by (call.IsInterrupted u) cause.NoMonitor w = λ calls may. may
    by (call.IsInterrupted u) cause.Memory w = λ calls may. may
    by call.End cause.NoMonitor w = λ calls may. may
    by call.End cause.Memory w = λ calls may. may
no_want x y (move.Attach t) right none want h = cc
no_want x y (move.Call t c) right none want h = cc
no_want x y (move.Return t r) right none want h = cc
no_want x y (move.Lock t) right none want h = cc
no_want x y (move.Unlock t) right none want h = cc
no_want x y (move.Illegal t) right none want h = cc
no_want x y (move.BadArgument t) right none want h = cc
no_want x y (move.Early t) right none want h = cc
no_want x y (move.Wait t) right none want h = cc
no_want x y (move.Notify t u) right none want h = cc
no_want x y (move.NotifyAll t) right none want h = cc
no_want x y (move.Interrupt t) right none want h = cc
no_want x y (move.TestClear t) right none want h = cc
no_want x y (move.Expire t) right none want h = cc
no_want x y (move.Spurious t) right none want h = cc
no_want x y (move.Relock t) right none want h = cc
no_want x y (move.Ask t) right none want h = cc
no_want x y (move.End t) right none want h = cc
no_want x y (move.Time now) right none want h = cc
