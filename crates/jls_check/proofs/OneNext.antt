-- The machine has one next state at most for each move.
use Rattle.std.proofs.Common.{◌≡◌, ℕ, ◌+◌, Bool, true, false, if◌then◌else◌, ◌==◌, ℤ, Option, Some, None, refl, sym, ap, ◌∙◌, subst, arith}
use Rattle.lock_word.specs.declared.ThreadId.{ThreadId}
use Rattle.lock_word.specs.declared.ObjectId.{ObjectId}
use Rattle.fat_monitor.specs.declared.actions.Reply.{Reply}
use Rattle.fat_monitor.specs.declared.actions.Reply.TheVariants as reply
use Rattle.fat_monitor.specs.declared.actions.Why.{Why}
use Rattle.fat_monitor.specs.declared.actions.Why.TheVariants as why
use Rattle.fast_path.specs.declared.calls.Call.{Call}
use Rattle.fast_path.specs.declared.calls.Call.TheVariants as call
use Rattle.step_core.specs.declared.machine.Doing.{Doing}
use Rattle.step_core.specs.declared.machine.Doing.TheVariants.{Idle, Wants, Waits, Back}
use Rattle.step_core.specs.declared.machine.Move.{Move}
use Rattle.step_core.specs.declared.machine.Move.TheVariants as move
use Rattle.fat_monitor.specs.Replies.{yes_or_no}
use Rattle.step_core.specs.Machine.{State, Thread, Monitor, Steps, Is, Calls, with_reply, now_is, with_thread, with_monitor, free, held, over_at, all_notified, with_interrupt, flag_back, reply_of, IsAnswer}

abbrev some_thread : Bool → Doing → Option Thread
some_thread f a = Some (record { flag = f; act = a })

abbrev flag_in : Option Thread → Bool
flag_in None = false
flag_in (Some x) = x.flag

abbrev act_in : Option Thread → Doing
act_in None = Idle
act_in (Some x) = x.act

-- a thread has one flag, and does one thing
flag_one : (s : State) (t : ThreadId) (f g : Bool) (a b : Doing) → Is s t f a → Is s t g b → f ≡ g
flag_one s t f g a b p q = ap flag_in (sym p ∙ q)

act_one : (s : State) (t : ThreadId) (f g : Bool) (a b : Doing) → Is s t f a → Is s t g b → a ≡ b
act_one s t f g a b p q = ap act_in (sym p ∙ q)

call_one : (s : State) (t : ThreadId) (f g : Bool) (c d : Call) → Calls s t f c → Calls s t g d → c ≡ d
call_one s t f g c d p q = same (act_one s t f g (Wants c) (Wants d) p q)
  where
    same : Wants c ≡ Wants d → c ≡ d
    same e = cc

-- the same move with the same answer
reply_one : (s a b : State) (t : ThreadId) (f g : Bool) (c d : Call) (r : Reply) → Calls s t f c → Calls s t g d → a ≡ with_reply s t f r → b ≡ with_reply s t g r → a ≡ b
reply_one s a b t f g c d r p q e h = e ∙ ap (λ (x : Bool). with_reply s t x r) (flag_one s t f g (Wants c) (Wants d) p q) ∙ sym h

return_one : (s a b : State) (t : ThreadId) (f g : Bool) (x y : Doing) → Is s t f x → Is s t g y → a ≡ now_is s t f Idle → b ≡ now_is s t g Idle → a ≡ b
return_one s a b t f g x y p q e h = e ∙ ap (λ (z : Bool). now_is s t z Idle) (flag_one s t f g x y p q) ∙ sym h

two : {A B C : Type 0} (f : A → B → C) (a b : A) (c d : B) → a ≡ b → c ≡ d → f a c ≡ f b d
two f a b c d e h = rw (e, h) refl

enter_one : (o p : ObjectId) → call.Enter o ≡ call.Enter p → o ≡ p
enter_one o p e = cc

exit_one : (o p : ObjectId) → call.Exit o ≡ call.Exit p → o ≡ p
exit_one o p e = cc

notify_all_one : (o p : ObjectId) → call.NotifyAll o ≡ call.NotifyAll p → o ≡ p
notify_all_one o p e = cc

target_one : (o p : ThreadId) → call.Interrupt o ≡ call.Interrupt p → o ≡ p
target_one o p e = cc

wait_one : (o p : ObjectId) (m k n l : ℤ) → call.Wait o m n ≡ call.Wait p k l → (o ≡ p) × (m ≡ k) × (n ≡ l)
wait_one o p m k n l e = (object_same e, millis_same e, nanos_same e)
  where
    object_same : call.Wait o m n ≡ call.Wait p k l → o ≡ p
    object_same e = cc

    millis_same : call.Wait o m n ≡ call.Wait p k l → m ≡ k
    millis_same e = cc

    nanos_same : call.Wait o m n ≡ call.Wait p k l → n ≡ l
    nanos_same e = cc

back_one : (o p : ObjectId) (m n : ℕ) (v w : Why) → Back o m v ≡ Back p n w → (o ≡ p) × (m ≡ n) × (v ≡ w)
back_one o p m n v w e = (object_same e, count_same e, why_same e)
  where
    object_same : Back o m v ≡ Back p n w → o ≡ p
    object_same e = cc

    count_same : Back o m v ≡ Back p n w → m ≡ n
    count_same e = cc

    why_same : Back o m v ≡ Back p n w → v ≡ w
    why_same e = cc

waits_one : (o p : ObjectId) (m n : ℕ) (c d : Option ℕ) → Waits o m c ≡ Waits p n d → (o ≡ p) × (m ≡ n)
waits_one o p m n c d e = (object_same e, count_same e)
  where
    object_same : Waits o m c ≡ Waits p n d → o ≡ p
    object_same e = cc

    count_same : Waits o m c ≡ Waits p n d → m ≡ n
    count_same e = cc

held_one : (s : State) (t : ThreadId) (o p : ObjectId) (m n : ℕ) → o ≡ p → s.monitor o ≡ held t (m + 1) → s.monitor p ≡ held t (n + 1) → m ≡ n
held_one s t o p m n e a b = let same = ap (λ (x : Monitor). x.count) (sym a ∙ ap s.monitor e ∙ b) in omega (arith, same)

-- ---- the rows

lock_one : (s a b : State) (t : ThreadId) → Steps s (move.Lock t) a → Steps s (move.Lock t) b → a ≡ b
lock_one s a b t p q =
    p.5 ∙ two (λ (f : Bool) (o : ObjectId). with_monitor (with_reply s t f reply.Entered) o (held t ((s.monitor o).count + 1))) p.0 q.0 p.1 q.1
    (flag_one s t p.0 q.0 _ _ p.2 q.2) (enter_one p.1 q.1 (call_one s t p.0 q.0 _ _ p.2 q.2)) ∙ sym q.5

unlock_one : (s a b : State) (t : ThreadId) → Steps s (move.Unlock t) a → Steps s (move.Unlock t) b → a ≡ b
unlock_one s a b t p q =
    let o : p.1 ≡ q.1 = exit_one p.1 q.1 (call_one s t p.0 q.0 _ _ p.3 q.3) in
    p.5 ∙ three p.0 q.0 p.1 q.1 p.2 q.2 (flag_one s t p.0 q.0 _ _ p.3 q.3) o (held_one s t p.1 q.1 p.2 q.2 o p.4 q.4) ∙ sym q.5
  where
    three : (f g : Bool) (o r : ObjectId) (m n : ℕ) → f ≡ g → o ≡ r → m ≡ n
        → with_monitor (with_reply s t f reply.Exited) o (if m == 0 then free else held t m) ≡ with_monitor (with_reply s t g reply.Exited) r (if n == 0 then free else held t n)
    three f g o r m n e h k = rw (e, h, k) refl

wait_move_one : (s a b : State) (t : ThreadId) → Steps s (move.Wait t) a → Steps s (move.Wait t) b → a ≡ b
wait_move_one s a b t p q =
    let w = wait_one p.0 q.0 p.1 q.1 p.2 q.2 (call_one s t false false _ _ p.3 q.3) in
    p.6 ∙ three p.0 q.0 p.1 q.1 p.2 q.2 w.0 w.1 w.2 ∙ sym q.6
  where
    three : (o r : ObjectId) (m k n l : ℤ) → o ≡ r → m ≡ k → n ≡ l
        → with_monitor (now_is s t false (Waits o (s.monitor o).count (over_at s.moment m n))) o free ≡ with_monitor (now_is s t false (Waits r (s.monitor r).count (over_at s.moment k l))) r free
    three o r m k n l e h j = rw (e, h, j) refl

notify_move_one : (s a b : State) (t u : ThreadId) → Steps s (move.Notify t (Some u)) a → Steps s (move.Notify t (Some u)) b → a ≡ b
notify_move_one s a b t u p q =
    let w = waits_one p.1 q.1 p.5 q.5 p.6 q.6 (act_one s u p.4 q.4 _ _ p.7 q.7) in
    p.8 ∙ four p.0 q.0 p.4 q.4 p.1 q.1 p.5 q.5 (flag_one s t p.0 q.0 _ _ p.2 q.2) (flag_one s u p.4 q.4 _ _ p.7 q.7) w.0 w.1 ∙ sym q.8
  where
    four : (f g i j : Bool) (o r : ObjectId) (m n : ℕ) → f ≡ g → i ≡ j → o ≡ r → m ≡ n
        → now_is (with_reply s t f reply.Notified) u i (Back o m why.Notified) ≡ now_is (with_reply s t g reply.Notified) u j (Back r n why.Notified)
    four f g i j o r m n e h k l = rw (e, h, k, l) refl

notify_all_move_one : (s a b : State) (t : ThreadId) → Steps s (move.NotifyAll t) a → Steps s (move.NotifyAll t) b → a ≡ b
notify_all_move_one s a b t p q =
    p.4 ∙ two (λ (f : Bool) (o : ObjectId). with_reply (all_notified s o) t f reply.Notified) p.0 q.0 p.1 q.1
    (flag_one s t p.0 q.0 _ _ p.2 q.2) (notify_all_one p.1 q.1 (call_one s t p.0 q.0 _ _ p.2 q.2)) ∙ sym q.4

interrupt_move_one : (s a b : State) (t : ThreadId) → Steps s (move.Interrupt t) a → Steps s (move.Interrupt t) b → a ≡ b
interrupt_move_one s a b t p q =
    let u : p.1 ≡ q.1 = target_one p.1 q.1 (call_one s t p.0 q.0 _ _ p.3 q.3) in
    p.5 ∙ three p.0 q.0 p.1 q.1 p.2 q.2 (flag_one s t p.0 q.0 _ _ p.3 q.3) u (there p.2 q.2 (sym p.4 ∙ ap s.thread u ∙ q.4)) ∙ sym q.5
  where
    there : (x y : Thread) → Some x ≡ Some y → x ≡ y
    there x y e = cc

    three : (f g : Bool) (u v : ThreadId) (x y : Thread) → f ≡ g → u ≡ v → x ≡ y
        → with_reply (with_thread s u (Some (with_interrupt x))) t (if t.0 == u.0 then true else f) reply.Done ≡ with_reply (with_thread s v (Some (with_interrupt y))) t (if t.0 == v.0 then true else g) reply.Done
    three f g u v x y e h k = rw (e, h, k) refl

expire_move_one : (s a b : State) (t : ThreadId) → Steps s (move.Expire t) a → Steps s (move.Expire t) b → a ≡ b
expire_move_one s a b t p q =
    let w = waits_one p.1 q.1 p.2 q.2 (Some p.3) (Some q.3) (act_one s t p.0 q.0 _ _ p.4 q.4) in
    p.6 ∙ three p.0 q.0 p.1 q.1 p.2 q.2 (flag_one s t p.0 q.0 _ _ p.4 q.4) w.0 w.1 ∙ sym q.6
  where
    three : (f g : Bool) (o r : ObjectId) (m n : ℕ) → f ≡ g → o ≡ r → m ≡ n → now_is s t f (Back o m why.Elapsed) ≡ now_is s t g (Back r n why.Elapsed)
    three f g o r m n e h k = rw (e, h, k) refl

spurious_move_one : (s a b : State) (t : ThreadId) → Steps s (move.Spurious t) a → Steps s (move.Spurious t) b → a ≡ b
spurious_move_one s a b t p q =
    let w = waits_one p.1 q.1 p.2 q.2 p.3 q.3 (act_one s t p.0 q.0 _ _ p.4 q.4) in
    p.5 ∙ three p.0 q.0 p.1 q.1 p.2 q.2 (flag_one s t p.0 q.0 _ _ p.4 q.4) w.0 w.1 ∙ sym q.5
  where
    three : (f g : Bool) (o r : ObjectId) (m n : ℕ) → f ≡ g → o ≡ r → m ≡ n → now_is s t f (Back o m why.Spurious) ≡ now_is s t g (Back r n why.Spurious)
    three f g o r m n e h k = rw (e, h, k) refl

relock_move_one : (s a b : State) (t : ThreadId) → Steps s (move.Relock t) a → Steps s (move.Relock t) b → a ≡ b
relock_move_one s a b t p q =
    let w = back_one p.1 q.1 p.2 q.2 p.3 q.3 (act_one s t p.0 q.0 _ _ p.4 q.4) in
    p.6 ∙ four p.0 q.0 p.1 q.1 p.2 q.2 p.3 q.3 (flag_one s t p.0 q.0 _ _ p.4 q.4) w.0 w.1 w.2 ∙ sym q.6
  where
    four : (f g : Bool) (o r : ObjectId) (m n : ℕ) (v w : Why) → f ≡ g → o ≡ r → m ≡ n → v ≡ w
        → with_monitor (with_reply s t (flag_back v f) (reply_of v)) o (held t m) ≡ with_monitor (with_reply s t (flag_back w g) (reply_of w)) r (held t n)
    four f g o r m n v w e h k l = rw (e, h, k, l) refl

-- a question has one answer
both_true : {P : Type 0} (x y : Bool) → (x ≡ true → P) × (P → x ≡ true) → (y ≡ true → P) × (P → y ≡ true) → x ≡ y
both_true true true p q = refl
both_true true false p q = sym (q.1 (p.0 refl))
both_true false true p q = p.1 (q.0 refl)
both_true false false p q = refl

asked : (s : State) (t : ThreadId) (c : Call) (x y : Bool) → IsAnswer s t c x → IsAnswer s t c y → x ≡ y
asked s t (call.Holds o) x y p q = both_true x y (p.0, p.1) (q.0, q.1)
asked s t (call.IsInterrupted u) x y p q = p.2 ∙ ap (λ (z : Thread). z.flag) (there p.0 q.0 (sym p.1 ∙ q.1)) ∙ sym q.2
  where
    there : (x y : Thread) → Some x ≡ Some y → x ≡ y
    there x y e = cc
asked s t (call.Enter o) x y p q = absurd p
asked s t (call.Exit o) x y p q = absurd p
asked s t (call.Wait o m n) x y p q = absurd p
asked s t (call.Notify o) x y p q = absurd p
asked s t (call.NotifyAll o) x y p q = absurd p
asked s t (call.Interrupt u) x y p q = absurd p
asked s t call.Interrupted x y p q = absurd p
asked s t call.End x y p q = absurd p

ask_move_one : (s a b : State) (t : ThreadId) → Steps s (move.Ask t) a → Steps s (move.Ask t) b → a ≡ b
ask_move_one s a b t p q =
    let c : p.2 ≡ q.2 = call_one s t p.0 q.0 p.2 q.2 p.3 q.3 in
    p.5 ∙ two (λ (f x : Bool). with_reply s t f (yes_or_no x)) p.0 q.0 p.1 q.1 (flag_one s t p.0 q.0 _ _ p.3 q.3)
    (asked s t q.2 p.1 q.1 (subst (λ (c : Call). IsAnswer s t c p.1) c p.4) q.4) ∙ sym q.5

-- ---- each move

pub one_next : (m : Move) (s a b : State) → Steps s m a → Steps s m b → a ≡ b
one_next (move.Attach t) s a b p q = p.1 ∙ sym q.1
one_next (move.Call t c) s a b p q = p.3 ∙ ap (λ (f : Bool). now_is s t f (Wants c)) (flag_one s t p.0 q.0 Idle Idle p.1 q.1) ∙ sym q.3
one_next (move.Return t reply.Ended) s a b p q = p.2 ∙ sym q.2
one_next (move.Return t reply.Entered) s a b p q = return_one s a b t p.0 q.0 _ _ p.1 q.1 p.2 q.2
one_next (move.Return t reply.Exited) s a b p q = return_one s a b t p.0 q.0 _ _ p.1 q.1 p.2 q.2
one_next (move.Return t reply.WaitOver) s a b p q = return_one s a b t p.0 q.0 _ _ p.1 q.1 p.2 q.2
one_next (move.Return t reply.Interrupted) s a b p q = return_one s a b t p.0 q.0 _ _ p.1 q.1 p.2 q.2
one_next (move.Return t reply.Notified) s a b p q = return_one s a b t p.0 q.0 _ _ p.1 q.1 p.2 q.2
one_next (move.Return t reply.Yes) s a b p q = return_one s a b t p.0 q.0 _ _ p.1 q.1 p.2 q.2
one_next (move.Return t reply.No) s a b p q = return_one s a b t p.0 q.0 _ _ p.1 q.1 p.2 q.2
one_next (move.Return t reply.Done) s a b p q = return_one s a b t p.0 q.0 _ _ p.1 q.1 p.2 q.2
one_next (move.Return t reply.IllegalMonitorState) s a b p q = return_one s a b t p.0 q.0 _ _ p.1 q.1 p.2 q.2
one_next (move.Return t reply.IllegalArgument) s a b p q = return_one s a b t p.0 q.0 _ _ p.1 q.1 p.2 q.2
one_next (move.Return t (reply.Refused c)) s a b p q = return_one s a b t p.0 q.0 _ _ p.1 q.1 p.2 q.2
one_next (move.Lock t) s a b p q = lock_one s a b t p q
one_next (move.Unlock t) s a b p q = unlock_one s a b t p q
one_next (move.Illegal t) s a b p q = reply_one s a b t p.0 q.0 p.1 q.1 _ p.3 q.3 p.6 q.6
one_next (move.BadArgument t) s a b p q = reply_one s a b t p.0 q.0 _ _ _ p.4 q.4 p.7 q.7
one_next (move.Early t) s a b p q = p.6 ∙ sym q.6
one_next (move.Wait t) s a b p q = wait_move_one s a b t p q
one_next (move.Notify t (Some u)) s a b p q = notify_move_one s a b t u p q
one_next (move.Notify t None) s a b p q = reply_one s a b t p.0 q.0 _ _ _ p.2 q.2 p.5 q.5
one_next (move.NotifyAll t) s a b p q = notify_all_move_one s a b t p q
one_next (move.Interrupt t) s a b p q = interrupt_move_one s a b t p q
one_next (move.TestClear t) s a b p q =
    p.2 ∙ ap (λ (f : Bool). with_reply s t false (yes_or_no f)) (flag_one s t p.0 q.0 _ _ p.1 q.1) ∙ sym q.2
one_next (move.Expire t) s a b p q = expire_move_one s a b t p q
one_next (move.Spurious t) s a b p q = spurious_move_one s a b t p q
one_next (move.Relock t) s a b p q = relock_move_one s a b t p q
one_next (move.Ask t) s a b p q = ask_move_one s a b t p q
one_next (move.Refuse t c) s a b p q = reply_one s a b t p.0 q.0 p.1 q.1 _ p.2 q.2 p.4 q.4
one_next (move.Time now) s a b p q = p.1 ∙ sym q.1
one_next (move.End t) s a b p q = reply_one s a b t p.0 q.0 _ _ _ p.1 q.1 p.3 q.3
