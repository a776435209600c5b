-- What becomes of a waiter that is both notified and interrupted (JLS SE 8, 17.2.4), move by move of the machine.
use Rattle.std.specs.Prelude.{◌≡◌, ◌⊎◌, ℕ, Bool, true, false, Option, Some, None}
use Rattle.std.proofs.Common.{refl, ap, sym, ◌∙◌, subst, inl, inr}
use Rattle.std.proofs.lemmas.Bool.{eq-eqb, ne_eqb}
use Rattle.std.proofs.lemmas.Option.{same_Some}
use Rattle.lock_word.specs.declared.ThreadId.{ThreadId}
use Rattle.lock_word.specs.declared.ObjectId.{ObjectId}
use Rattle.fat_monitor.specs.declared.actions.Reply.{Reply}
use Rattle.fat_monitor.specs.declared.actions.Reply.TheVariants as reply
use Rattle.fat_monitor.specs.declared.actions.Why.{Why}
use Rattle.fat_monitor.specs.declared.actions.Why.TheVariants as why
use Rattle.fast_path.specs.declared.calls.Call.{Call}
use Rattle.fast_path.specs.declared.calls.Call.TheVariants as call
use Rattle.step_core.specs.declared.machine.Doing.{Doing}
use Rattle.step_core.specs.declared.machine.Doing.TheVariants.{Idle, Wants, Waits, Back, Has}
use Rattle.step_core.specs.declared.machine.Move.{Move}
use Rattle.step_core.specs.declared.machine.Move.TheVariants as move
use Rattle.step_core.specs.Machine.{State, Thread, Steps, Is, Calls, with_interrupt, after_interrupt, flag_back, reply_of}
use Rattle.step_core.specs.Lasting.{IsBack}
use Rattle.step_core.proofs.Lists.Steady.{Leaves, one_step}
use Rattle.step_core.proofs.Clauses.Lasting.{set_stays, reason, relocked_set}

-- a thread does one thing
one_thing : (s : State) (u v : ThreadId) (f g : Bool) (x y : Doing) → u.0 ≡ v.0 → Is s u f x → Is s v g y → ◌≡◌ {A = Thread} (record { flag = f; act = x }) (record { flag = g; act = y })
one_thing s u v f g x y same a b = same_Some _ _ (sym a ∙ ap (λ (n : ℕ). s.thread (record { 0 = n })) same ∙ b)

-- whom the call of an interrupt names
names_one : {u v : ThreadId} → Wants (call.Interrupt u) ≡ Wants (call.Interrupt v) → v ≡ u
names_one e = cc

replies_one : {q r : Reply} → Has q ≡ Has r → r ≡ q
replies_one e = cc

notifies_one : {o p : ObjectId} → Wants (call.Notify o) ≡ Wants (call.Notify p) → p ≡ o
notifies_one e = cc

-- an interrupt of u, which is no caller
module _ (s s' : State) (t u : ThreadId) (mine theirs : Bool) (x : Doing) (calls : Calls s t mine (call.Interrupt u)) (is : Is s u theirs x)
    (apart : u.0 ≡ t.0 → ⊥) (one : Steps s (move.Interrupt t) s') where
  is_stirred : Is s' u true (after_interrupt x)
  is_stirred =
      let (f, v, y, theirs_too, live, e) = one in
      let whom : v ≡ u = names_one (ap (λ (z : Thread). z.act) (one_thing s t t mine f (Wants (call.Interrupt u)) (Wants (call.Interrupt v)) refl calls theirs_too)) in
      let number : u.0 ≡ v.0 = ap (λ (z : ThreadId). z.0) (sym whom) in
      let same : ◌≡◌ {A = Thread} (record { flag = theirs; act = x }) y = same_Some _ _ (sym is ∙ ap (λ (n : ℕ). s.thread (record { 0 = n })) number ∙ live) in
      rw (e, ne_eqb u.0 t.0 apart, eq-eqb u.0 v.0 number) (ap (λ (z : Thread). Some (with_interrupt z)) (sym same))

-- whoever waits, or is back, is another thread than the caller
not_caller_waits : (s : State) (t u : ThreadId) (f g : Bool) (c : Call) (o : ObjectId) (n : ℕ) (d : Option ℕ) → Calls s t f c → Is s u g (Waits o n d) → u.0 ≡ t.0 → ⊥
not_caller_waits s t u f g c o n d calls is same =
    let never : Waits o n d ≡ Wants c = ap (λ (z : Thread). z.act) (one_thing s u t g f (Waits o n d) (Wants c) same is calls) in absurd (cc)

not_caller_back : (s : State) (t u : ThreadId) (f g : Bool) (c : Call) (o : ObjectId) (n : ℕ) (w : Why) → Calls s t f c → Is s u g (Back o n w) → u.0 ≡ t.0 → ⊥
not_caller_back s t u f g c o n w calls is same =
    let never : Back o n w ≡ Wants c = ap (λ (z : Thread). z.act) (one_thing s u t g f (Back o n w) (Wants c) same is calls) in absurd (cc)

-- A waiter that is interrupted first leaves the wait set for it,
pub first_interrupted : (s s' : State) (t u : ThreadId) (mine theirs : Bool) (o : ObjectId) (n : ℕ) (d : Option ℕ) → Calls s t mine (call.Interrupt u) → Is s u theirs (Waits o n d)
    → Steps s (move.Interrupt t) s' → Is s' u true (Back o n why.Interrupted)
first_interrupted s s' t u mine theirs o n d calls is one =
    is_stirred s s' t u mine theirs (Waits o n d) calls is (not_caller_waits s t u mine theirs (call.Interrupt u) o n d calls is) one

-- and a notify goes to another thread, as it does where the waiter was notified before,
pub not_chosen : (s s' : State) (t u v : ThreadId) (flag : Bool) (o : ObjectId) (n : ℕ) (w : Why) → Is s u flag (Back o n w) → Steps s (move.Notify t (Some v)) s' → v.0 ≡ u.0 → ⊥
not_chosen s s' t u v flag o n w is one same =
    let (f, p, calls, owned, g, k, d, waits, e) = one in
    let never : Waits p k d ≡ Back o n w = ap (λ (z : Thread). z.act) (one_thing s v u g flag (Waits p k d) (Back o n w) same waits is) in absurd (cc)

-- which there is where another waits,
pub another : (s s' : State) (t v : ThreadId) (f g : Bool) (o : ObjectId) (n : ℕ) (d : Option ℕ) → Calls s t f (call.Notify o) → Is s v g (Waits o n d) → Steps s (move.Notify t None) s' → ⊥
another s s' t v f g o n d calls is one =
    let (h, p, calls_too, owned, nobody, e) = one in
    let same : p ≡ o = notifies_one (ap (λ (z : Thread). z.act) (one_thing s t t f h (Wants (call.Notify o)) (Wants (call.Notify p)) refl calls calls_too)) in
    nobody v g n d (is ∙ ap (λ (q : ObjectId). Some (record { flag = g; act = Waits q n d })) (sym same))

-- and its call throws, when the interrupt is forgotten.
pub thrown : (s s' : State) (m : Move) (u : ThreadId) (flag : Bool) (o : ObjectId) (n : ℕ) → Steps s m s' → Is s u flag (Back o n why.Interrupted)
    → IsBack s' u o n why.Interrupted ⊎ Is s' u false (Has reply.Interrupted)
thrown s s' m u flag o n one is = by_case (one_step s u flag (Back o n why.Interrupted) tt is m s' one)
  where
    by_case : Leaves s' m u flag (Back o n why.Interrupted) → IsBack s' u o n why.Interrupted ⊎ Is s' u false (Has reply.Interrupted)
    by_case (inl stays) = inl (stays.0, stays.2)
    by_case (inr (inl (p, k, y, e, h))) =
        let one_reason : y ≡ why.Interrupted = reason e in inr (h ∙ ap (λ (z : Why). Some (record { flag = flag_back z flag; act = Has (reply_of z) })) one_reason)
    by_case (inr (inr (v, q, e, same, h))) = absurd (cc)

-- A waiter that was notified first does not leave for an interrupt that comes then; it keeps the interrupt,
pub first_notified : (s s' : State) (t u : ThreadId) (mine theirs : Bool) (o : ObjectId) (n : ℕ) → Calls s t mine (call.Interrupt u) → Is s u theirs (Back o n why.Notified)
    → Steps s (move.Interrupt t) s' → Is s' u true (Back o n why.Notified)
first_notified s s' t u mine theirs o n calls is one =
    is_stirred s s' t u mine theirs (Back o n why.Notified) calls is (not_caller_back s t u mine theirs (call.Interrupt u) o n why.Notified calls is) one

-- and returns normally with it: it has it with its reply, and with its return.
pub pending : (s s' : State) (m : Move) (u : ThreadId) (o : ObjectId) (n : ℕ) → Steps s m s' → Is s u true (Back o n why.Notified)
    → Is s' u true (Back o n why.Notified) ⊎ Is s' u true (Has reply.WaitOver)
pending s s' m u o n one is = by_case (one_step s u true (Back o n why.Notified) tt is m s' one)
  where
    by_case : Leaves s' m u true (Back o n why.Notified) → Is s' u true (Back o n why.Notified) ⊎ Is s' u true (Has reply.WaitOver)
    by_case (inl stays) = inl (set_stays s' u (Back o n why.Notified) stays)
    by_case (inr (inl back)) = inr (relocked_set s' u o n back)
    by_case (inr (inr (v, q, e, same, h))) = absurd (cc)

pub returned : (s s' : State) (m : Move) (u : ThreadId) → Steps s m s' → Is s u true (Has reply.WaitOver) → Is s' u true (Has reply.WaitOver) ⊎ Is s' u true Idle
returned s s' m u one is = by_case (one_step s u true (Has reply.WaitOver) tt is m s' one)
  where
    by_move : (t : ThreadId) (r : Reply) → m ≡ move.Return t r → t.0 ≡ u.0 → Has reply.WaitOver ≡ Has r → Is s' u true (Has reply.WaitOver) ⊎ Is s' u true Idle
    by_move t r e same has =
        let reply_is : r ≡ reply.WaitOver = replies_one has in
        let (f, has_it, after) = subst (λ (x : Move). Steps s x s') (e ∙ ap (λ (x : Reply). move.Return t x) reply_is) one in
        let flag : true ≡ f = ap (λ (z : Thread). z.flag) (one_thing s u t true f (Has reply.WaitOver) (Has reply.WaitOver) (sym same) is has_it) in
        inr (rw (after, eq-eqb u.0 t.0 (sym same)) (ap (λ (b : Bool). Some (record { flag = b; act = Idle })) (sym flag)))

    by_case : Leaves s' m u true (Has reply.WaitOver) → Is s' u true (Has reply.WaitOver) ⊎ Is s' u true Idle
    by_case (inl stays) = inl (set_stays s' u (Has reply.WaitOver) stays)
    by_case (inr (inl (p, k, y, e, h))) = absurd (cc)
    by_case (inr (inr (t, r, e, same, has))) = by_move t r e same has

-- No move clears the interrupt of a thread that is back, and lets its wait return normally.
pub never_lost : (s s' : State) (m : Move) (u : ThreadId) (o : ObjectId) (n : ℕ) (w : Why) → Steps s m s' → Is s u true (Back o n w) → Is s' u false (Has reply.WaitOver) → ⊥
never_lost s s' m u o n w one is over = by_case (one_step s u true (Back o n w) tt is m s' one)
  where
    by_reason : (y : Why) → Is s' u (flag_back y true) (Has (reply_of y)) → ⊥
    by_reason why.Notified h = let x = same_Some _ _ (sym over ∙ h) in let never : false ≡ true = ap (λ (z : Thread). z.flag) x in absurd (cc)
    by_reason why.Interrupted h = let x = same_Some _ _ (sym over ∙ h) in let never : Has reply.WaitOver ≡ Has reply.Interrupted = ap (λ (z : Thread). z.act) x in absurd (cc)
    by_reason why.Elapsed h = let x = same_Some _ _ (sym over ∙ h) in let never : false ≡ true = ap (λ (z : Thread). z.flag) x in absurd (cc)
    by_reason why.Spurious h = let x = same_Some _ _ (sym over ∙ h) in let never : false ≡ true = ap (λ (z : Thread). z.flag) x in absurd (cc)

    by_case : Leaves s' m u true (Back o n w) → ⊥
    by_case (inl stays) =
        let x = same_Some _ _ (sym over ∙ set_stays s' u (Back o n w) stays) in let never : false ≡ true = ap (λ (z : Thread). z.flag) x in absurd (cc)
    by_case (inr (inl (p, k, y, e, h))) = by_reason y h
    by_case (inr (inr (v, q, e, same, h))) = absurd (cc)

-- both orders of a notify and an interrupt
pub ruleset both_orders = (first_interrupted, not_chosen, another, thrown, first_notified, pending, returned, never_lost)
