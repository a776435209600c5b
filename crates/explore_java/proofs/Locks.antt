-- How objects are locked in the runs of the machine: 65,535 times at most, and no object by a thread that waits on it
-- or is to come back to it.
use native.Mathlib.Omega.{arith}
use Rattle.std.proofs.Common.{◌≡◌, ◌∙◌, ◌⊎◌, inl, inr, subst, sym, ap, refl, ℕ, ◌<◌, ◌≤◌, ◌==◌, List, [], ◌∷◌, Option, Some, None, Bool, true, false, if◌then◌else◌}
use Rattle.std.proofs.lemmas.Bool.{cases_lt, eq-eqb, eqb-true}
use Rattle.std.proofs.lemmas.Option.{same_Some}
use Rattle.std.specs.Option.{option_map}
use Rattle.lock_word.specs.declared.ObjectId.{ObjectId}
use Rattle.lock_word.specs.declared.ThreadId.{ThreadId}
use Rattle.fat_monitor.specs.declared.actions.Reply.{Reply}
use Rattle.fat_monitor.specs.declared.actions.Reply.TheVariants as reply
use Rattle.fat_monitor.specs.declared.actions.Why.TheVariants as why
use Rattle.step_core.specs.declared.machine.Doing.{Doing}
use Rattle.step_core.specs.declared.machine.Doing.TheVariants.{Idle, Wants, Waits, Back, Has}
use Rattle.step_core.specs.declared.machine.Move.{Move}
use Rattle.step_core.specs.declared.machine.Move.TheVariants as move
use Rattle.step_core.specs.Machine.{Monitor, OwnedBy, Run, State, Steps, Thread, after_interrupt, after_notify_all, all_notified, free, held, now_is, opening, with_interrupt, with_monitor, with_reply, with_thread}

-- a monitor without an owner is not locked, and one with an owner is locked 1 to 65,535 times
pub record IsCounted (m : Monitor) : Type 0 where
  pub most : m.count ≤ 65535
  pub none : m.owner ≡ None → m.count ≡ 0
  pub some : (u : ThreadId) → m.owner ≡ Some u → 1 ≤ m.count

-- a thread that is to lock its object again is to do so 1 to 65,535 times
abbrev pub WillLock : Doing → Type 0
WillLock Idle = Unit {0}
WillLock (Wants c) = Unit {0}
WillLock (Waits o n d) = (1 ≤ n) × (n ≤ 65535)
WillLock (Back o n w) = (1 ≤ n) × (n ≤ 65535)
WillLock (Has r) = Unit {0}

-- it has given up this object
abbrev pub IsAway : Doing → ObjectId → Type 0
IsAway Idle q = ⊥
IsAway (Wants c) q = ⊥
IsAway (Waits o n d) q = q.0 ≡ o.0
IsAway (Back o n w) q = q.0 ≡ o.0
IsAway (Has r) q = ⊥

-- What holds behind every run: monitors are counted; who waits on an object or comes back to it is to lock it 1 to
-- 65,535 times, and does not own it.
pub record AreRight (x : State) : Type 0 where
  pub counts : (o : ObjectId) → IsCounted (x.monitor o)
  pub again : (t : ThreadId) (y : Thread) → x.thread t ≡ Some y → WillLock y.act
  pub apart : (t : ThreadId) (y : Thread) (q : ObjectId) → x.thread t ≡ Some y → IsAway y.act q → OwnedBy x q t → ⊥

counted_free : IsCounted free
counted_free = record { most = omega arith; none = λ e. refl; some = λ u e. absurd (cc) }

counted_held : (t : ThreadId) (n : ℕ) → 1 ≤ n → n ≤ 65535 → IsCounted (held t n)
counted_held t n low high = record { most = high; none = λ e. absurd (cc); some = λ u e. low }

same_thread : (t u : ThreadId) → t.0 ≡ u.0 → t ≡ u
same_thread t u e i = record { 0 = e i }

right_thread : (x : State) (t : ThreadId) (o : Option Thread) → AreRight x → ((y : Thread) → o ≡ Some y → WillLock y.act)
    → ((y : Thread) (q : ObjectId) → o ≡ Some y → IsAway y.act q → OwnedBy x q t → ⊥) → AreRight (with_thread x t o)
right_thread x t o right again apart = record {
  counts = right.counts;
  again = λ u y e. again_at u y (u.0 == t.0) e;
  apart = λ u y q e away own. apart_at u y q (u.0 == t.0) refl e away own;
}
  where
    again_at : (u : ThreadId) (y : Thread) (b : Bool) → (if b then o else x.thread u) ≡ Some y → WillLock y.act
    again_at u y true e = again y e
    again_at u y false e = right.again u y e

    apart_at : (u : ThreadId) (y : Thread) (q : ObjectId) (b : Bool) → (u.0 == t.0) ≡ b → (if b then o else x.thread u) ≡ Some y
        → IsAway y.act q → OwnedBy x q u → ⊥
    apart_at u y q true same e away own = apart y q e away (subst (λ (v : ThreadId). OwnedBy x q v) (same_thread u t (eqb-true u.0 t.0 same)) own)
    apart_at u y q false same e away own = right.apart u y q e away own

right_now : (x : State) (t : ThreadId) (flag : Bool) (d : Doing) → AreRight x → WillLock d
    → ((q : ObjectId) → IsAway d q → OwnedBy x q t → ⊥) → AreRight (now_is x t flag d)
right_now x t flag d right again apart =
    right_thread x t _ right
    (λ y e. subst (λ (z : Thread). WillLock z.act) (same_Some _ y e) again)
    (λ y q e away own. apart q (subst (λ (z : Thread). IsAway z.act q) (sym (same_Some _ y e)) away) own)

away_same : (d : Doing) (q o : ObjectId) → q.0 ≡ o.0 → IsAway d q → IsAway d o
away_same Idle q o e a = a
away_same (Wants c) q o e a = a
away_same (Waits p n d) q o e a = sym e ∙ a
away_same (Back p n w) q o e a = sym e ∙ a
away_same (Has r) q o e a = a

right_monitor : (x : State) (o : ObjectId) (m : Monitor) → AreRight x → IsCounted m
    → ((u : ThreadId) (y : Thread) → x.thread u ≡ Some y → IsAway y.act o → m.owner ≡ Some u → ⊥) → AreRight (with_monitor x o m)
right_monitor x o m right counted apart = record {
  counts = λ q. counts_at q (q.0 == o.0);
  again = right.again;
  apart = λ u y q e away own. apart_at u y q (q.0 == o.0) refl e away own;
}
  where
    counts_at : (q : ObjectId) (b : Bool) → IsCounted (if b then m else x.monitor q)
    counts_at q true = counted
    counts_at q false = right.counts q

    apart_at : (u : ThreadId) (y : Thread) (q : ObjectId) (b : Bool) → (q.0 == o.0) ≡ b → x.thread u ≡ Some y → IsAway y.act q
        → (if b then m else x.monitor q).owner ≡ Some u → ⊥
    apart_at u y q true same e away own = apart u y e (away_same y.act q o (eqb-true q.0 o.0 same) away) own
    apart_at u y q false same e away own = right.apart u y q e away own

-- the thread that owns the object from now on has its reply
owner_in : (x : State) (t u : ThreadId) (flag : Bool) (r : Reply) (y : Thread) (o : ObjectId) → (now_is x t flag (Has r)).thread u ≡ Some y
    → IsAway y.act o → t ≡ u → ⊥
owner_in x t u flag r y o is away same =
    let one : (u.0 == t.0) ≡ true = eq-eqb u.0 t.0 (ap (λ (v : ThreadId). v.0) (sym same)) in
    let own : Option Thread = Some (record { flag = flag; act = Has r }) in
    let here : own ≡ Some y = sym (ap (λ (b : Bool). if b then own else x.thread u) one) ∙ is in
    subst (λ (z : Thread). IsAway z.act o) (sym (same_Some _ y here)) away

right_held : (x : State) (t : ThreadId) (flag : Bool) (r : Reply) (o : ObjectId) (n : ℕ) → AreRight (with_reply x t flag r) → 1 ≤ n → n ≤ 65535
    → AreRight (with_monitor (with_reply x t flag r) o (held t n))
right_held x t flag r o n right low high =
    right_monitor (with_reply x t flag r) o (held t n) right (counted_held t n low high)
    (λ u y is away own. owner_in x t u flag r y o is away (same_Some t u own))

lock_all : (o : ObjectId) (d : Doing) → WillLock d → WillLock (after_notify_all o d)
lock_all o Idle h = h
lock_all o (Wants c) h = h
lock_all o (Waits p n d) h = by (p.0 == o.0)
  where
    by : (b : Bool) → WillLock (if b then Back p n why.Notified else Waits p n d)
    by true = h
    by false = h
lock_all o (Back p n w) h = h
lock_all o (Has r) h = h

away_all : (o q : ObjectId) (d : Doing) → IsAway (after_notify_all o d) q → IsAway d q
away_all o q Idle a = a
away_all o q (Wants c) a = a
away_all o q (Waits p n d) a = by (p.0 == o.0) a
  where
    by : (b : Bool) → IsAway (if b then Back p n why.Notified else Waits p n d) q → q.0 ≡ p.0
    by true h = h
    by false h = h
away_all o q (Back p n w) a = a
away_all o q (Has r) a = a

right_all : (x : State) (o : ObjectId) → AreRight x → AreRight (all_notified x o)
right_all x o right = record {
  counts = right.counts;
  again = λ u y e. again_at u y (x.thread u) refl e;
  apart = λ u y q e away own. apart_at u y q (x.thread u) refl e away own;
}
  where
    back : Thread → Thread
    back v = record { flag = v.flag; act = after_notify_all o v.act }

    again_at : (u : ThreadId) (y : Thread) (z : Option Thread) → x.thread u ≡ z → option_map back z ≡ Some y → WillLock y.act
    again_at u y None is e = absurd (cc)
    again_at u y (Some v) is e = subst (λ (w : Thread). WillLock w.act) (same_Some (back v) y e) (lock_all o v.act (right.again u v is))

    apart_at : (u : ThreadId) (y : Thread) (q : ObjectId) (z : Option Thread) → x.thread u ≡ z → option_map back z ≡ Some y → IsAway y.act q → OwnedBy x q u → ⊥
    apart_at u y q None is e away own = cc
    apart_at u y q (Some v) is e away own =
        right.apart u v q is (away_all o q v.act (subst (λ (w : Thread). IsAway w.act q) (sym (same_Some (back v) y e)) away)) own

lock_interrupted : (d : Doing) → WillLock d → WillLock (after_interrupt d)
lock_interrupted Idle h = h
lock_interrupted (Wants c) h = h
lock_interrupted (Waits o n d) h = h
lock_interrupted (Back o n w) h = h
lock_interrupted (Has r) h = h

away_interrupted : (d : Doing) (q : ObjectId) → IsAway (after_interrupt d) q → IsAway d q
away_interrupted Idle q a = a
away_interrupted (Wants c) q a = a
away_interrupted (Waits o n d) q a = a
away_interrupted (Back o n w) q a = a
away_interrupted (Has r) q a = a

-- a thread that has its reply, and one that does nothing
right_plain : (x : State) (t : ThreadId) (flag : Bool) (r : Reply) → AreRight x → AreRight (with_reply x t flag r)
right_plain x t flag r right = right_now x t flag (Has r) right tt (λ q away own. away)

right_idle : (x : State) (t : ThreadId) (flag : Bool) → AreRight x → AreRight (now_is x t flag Idle)
right_idle x t flag right = right_now x t flag Idle right tt (λ q away own. away)

not_zero : (n : ℕ) → (n == 0) ≡ false → 1 ≤ n
not_zero n e = by (cases_lt 0 n)
  where
    by : (0 < n) ⊎ (n ≤ 0) → 1 ≤ n
    by (inl lt) = omega (arith, lt)
    by (inr le) = absurd (let zero : n ≡ 0 = omega (arith, le) in differ (sym e ∙ eq-eqb n 0 zero))
      where
        differ : false ≡ true → ⊥
        differ e = cc

-- so it is behind a move
step_right : (x y : State) (m : Move) → AreRight x → Steps x m y → AreRight y
step_right x y (move.Attach t) right h = subst AreRight (sym h.1) (right_idle x t false right)
step_right x y (move.Call t c) right h = subst AreRight (sym h.3) (right_now x t h.0 (Wants c) right tt (λ q away own. away))
step_right x y (move.Return t r) right h = by r h
  where
    by : (r : Reply) → Steps x (move.Return t r) y → AreRight y
    by reply.Ended g = subst AreRight (sym g.2) (right_thread x t None right (λ z e. absurd (cc)) (λ z q e. absurd (cc)))
    by reply.Entered g = subst AreRight (sym g.2) (right_idle x t g.0 right)
    by reply.Exited g = subst AreRight (sym g.2) (right_idle x t g.0 right)
    by reply.WaitOver g = subst AreRight (sym g.2) (right_idle x t g.0 right)
    by reply.Interrupted g = subst AreRight (sym g.2) (right_idle x t g.0 right)
    by reply.Notified g = subst AreRight (sym g.2) (right_idle x t g.0 right)
    by reply.Yes g = subst AreRight (sym g.2) (right_idle x t g.0 right)
    by reply.No g = subst AreRight (sym g.2) (right_idle x t g.0 right)
    by reply.Done g = subst AreRight (sym g.2) (right_idle x t g.0 right)
    by reply.IllegalMonitorState g = subst AreRight (sym g.2) (right_idle x t g.0 right)
    by reply.IllegalArgument g = subst AreRight (sym g.2) (right_idle x t g.0 right)
    by (reply.Refused c) g = subst AreRight (sym g.2) (right_idle x t g.0 right)
step_right x y (move.Lock t) right h =
    let few = h.4 in
    subst AreRight (sym h.5) (right_held x t h.0 _ h.1 _ (right_plain x t h.0 _ right) (omega arith) (omega (arith, few)))
step_right x y (move.Unlock t) right h = subst AreRight (sym h.5) (by (h.2 == 0) refl)
  where
    by : (b : Bool) → (h.2 == 0) ≡ b → AreRight (with_monitor (with_reply x t h.0 reply.Exited) h.1 (if b then free else held t h.2))
    by true e = right_monitor _ h.1 free (right_plain x t h.0 _ right) counted_free (λ u y is away own. (cc))
    by false e =
        let most = subst (λ (m : Monitor). m.count ≤ 65535) h.4 (right.counts h.1).most in
        right_held x t h.0 _ h.1 h.2 (right_plain x t h.0 _ right) (not_zero h.2 e) (omega (arith, most))
step_right x y (move.Illegal t) right h = subst AreRight (sym h.6) (right_plain x t h.0 _ right)
step_right x y (move.BadArgument t) right h = subst AreRight (sym h.7) (right_plain x t h.0 _ right)
step_right x y (move.Early t) right h = subst AreRight (sym h.6) (right_plain x t false _ right)
step_right x y (move.Wait t) right h =
    let counted = right.counts h.0 in
    let freed = right_monitor x h.0 free right counted_free (λ u z is away own. (cc)) in
    subst AreRight (sym h.6) (right_now (with_monitor x h.0 free) t false (Waits h.0 (x.monitor h.0).count _) freed (counted.some t h.4, counted.most)
    (λ q away own. gone q away own))
  where
    gone : (q : ObjectId) → q.0 ≡ h.0.0 → OwnedBy (with_monitor x h.0 free) q t → ⊥
    gone q away own =
        let here = ap (λ (b : Bool). (if b then free else x.monitor q).owner) (eq-eqb q.0 h.0.0 away) in
        never t (sym here ∙ own)
      where
        never : (t : ThreadId) → None ≡ Some t → ⊥
        never t e = cc
step_right x y (move.Notify t (Some u)) right h =
    subst AreRight (sym h.8) (right_now (with_reply x t h.0 reply.Notified) u h.4 (Back h.1 h.5 why.Notified) (right_plain x t h.0 _ right)
    (right.again u _ h.7) (λ q away own. right.apart u _ q h.7 away own))
step_right x y (move.Notify t None) right h = subst AreRight (sym h.5) (right_plain x t h.0 _ right)
step_right x y (move.NotifyAll t) right h = subst AreRight (sym h.4) (right_plain (all_notified x h.1) t h.0 _ (right_all x h.1 right))
step_right x y (move.Interrupt t) right h =
    let marked = right_thread x h.1 (Some (with_interrupt h.2)) right
    (λ z e. subst (λ (w : Thread). WillLock w.act) (same_Some _ z e) (lock_interrupted h.2.act (right.again h.1 h.2 h.4)))
    (λ z q e away own. right.apart h.1 h.2 q h.4 (away_interrupted h.2.act q (subst (λ (w : Thread). IsAway w.act q) (sym (same_Some _ z e)) away)) own) in
    subst AreRight (sym h.5) (right_plain (with_thread x h.1 (Some (with_interrupt h.2))) t _ _ marked)
step_right x y (move.TestClear t) right h = subst AreRight (sym h.2) (right_plain x t false _ right)
step_right x y (move.Expire t) right h =
    subst AreRight (sym h.6) (right_now x t h.0 (Back h.1 h.2 why.Elapsed) right (right.again t _ h.4) (λ q away own. right.apart t _ q h.4 away own))
step_right x y (move.Spurious t) right h =
    subst AreRight (sym h.5) (right_now x t h.0 (Back h.1 h.2 why.Spurious) right (right.again t _ h.4) (λ q away own. right.apart t _ q h.4 away own))
step_right x y (move.Relock t) right h =
    let again = right.again t _ h.4 in
    subst AreRight (sym h.6) (right_held x t _ _ h.1 h.2 (right_plain x t _ _ right) again.0 again.1)
step_right x y (move.Ask t) right h = subst AreRight (sym h.5) (right_plain x t h.0 _ right)
step_right x y (move.Refuse t c) right h = subst AreRight (sym h.4) (right_plain x t h.0 _ right)
step_right x y (move.Time now) right h = subst AreRight (sym h.1) (record { counts = right.counts; again = right.again; apart = right.apart })
step_right x y (move.End t) right h = subst AreRight (sym h.3) (right_plain x t h.0 _ right)

-- and behind a run
pub run_right : (ms : List Move) (x y : State) → AreRight x → Run x ms y → AreRight y
run_right [] x y right r = subst AreRight (sym r) right
run_right (m ∷ ms) x y right r = run_right ms r.0 y (step_right x r.0 m right r.1) r.2

pub opening_right : (n : ℕ) → AreRight (opening n)
opening_right n = record { counts = λ o. counted_free; again = λ t y e. absurd (cc); apart = λ t y q e. absurd (cc) }
