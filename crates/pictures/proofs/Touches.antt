-- A thread that a move does not touch is behind it as it was.
use Rattle.std.proofs.Common.{◌≡◌, Bool, true, false, ◌==◌, Option, Some, None, refl, ap, ◌∙◌, subst}
use Rattle.std.specs.Prelude.{cond, if◌then◌else◌}
use Rattle.std.specs.Option.{option_map}
use Rattle.lock_word.specs.declared.ObjectId.{ObjectId}
use Rattle.lock_word.specs.declared.ThreadId.{ThreadId}
use Rattle.fat_monitor.specs.declared.actions.Reply.TheVariants as reply
use Rattle.fat_monitor.specs.declared.actions.Why.TheVariants as why
use Rattle.step_core.specs.declared.machine.Doing.{Doing}
use Rattle.step_core.specs.declared.machine.Doing.TheVariants.{Idle, Wants, Waits, Back, Has}
use Rattle.step_core.specs.declared.machine.Move.{Move}
use Rattle.step_core.specs.declared.machine.Move.TheVariants as move
use Rattle.step_core.specs.Machine.{State, Thread, Steps, after_notify_all, is_waiting, waits_on}
use Rattle.pictures.specs.Arrows.{call_in}
use Rattle.pictures.specs.Touched.{is_touched, touched_by, touched_by_call}
use Rattle.pictures.proofs.Lives.{seen}

-- the state with another record of t
one : (s s' : State) (t u : ThreadId) (x : Option Thread) → s'.thread u ≡ cond (u.0 == t.0) x (s.thread u) → (u.0 == t.0) ≡ false → s'.thread u ≡ s.thread u
one s s' t u x e other = e ∙ ap (λ b. cond b x (s.thread u)) other

-- with those of two threads, in either order
two : (a b : Bool) (x y z : Option Thread) → (if a then true else b) ≡ false → cond a x (cond b y z) ≡ z
two true b x y z neither = cc
two false true x y z neither = cc
two false false x y z neither = refl

two_turned : (a b : Bool) (x y z : Option Thread) → (if a then true else b) ≡ false → cond b y (cond a x z) ≡ z
two_turned true b x y z neither = cc
two_turned false true x y z neither = cc
two_turned false false x y z neither = refl

-- with those of t and of all that wait on o
act_stays : (o : ObjectId) (act : Doing) → waits_on act o ≡ false → after_notify_all o act ≡ act
act_stays o (Waits p n d) away = ap (λ b. if b then Back p n why.Notified else Waits p n d) away
act_stays o Idle away = refl
act_stays o (Wants c) away = refl
act_stays o (Back p n w) away = refl
act_stays o (Has r) away = refl

woken : (a : Bool) (o : ObjectId) (x z : Option Thread) → (if a then true else is_waiting z o) ≡ false
    → cond a x (option_map (λ (y : Thread). record { flag = y.flag; act = after_notify_all o y.act }) z) ≡ z
woken true o x z neither = cc
woken false o x None neither = refl
woken false o x (Some y) neither = ap (λ act. Some (record { flag = y.flag; act = act })) (act_stays o y.act neither)

pub untouched : (s s' : State) (m : Move) (u : ThreadId) → Steps s m s' → is_touched s (touched_by s m) u ≡ false → s'.thread u ≡ s.thread u
untouched s s' (move.Attach t) u p other = one s s' t u _ (seen _ _ u p.1) other
untouched s s' (move.Call t c) u p other = one s s' t u _ (seen _ _ u p.3) other
untouched s s' (move.Return t reply.Ended) u p other = one s s' t u _ (seen _ _ u p.2) other
untouched s s' (move.Return t reply.Entered) u p other = one s s' t u _ (seen _ _ u p.2) other
untouched s s' (move.Return t reply.Exited) u p other = one s s' t u _ (seen _ _ u p.2) other
untouched s s' (move.Return t reply.WaitOver) u p other = one s s' t u _ (seen _ _ u p.2) other
untouched s s' (move.Return t reply.Interrupted) u p other = one s s' t u _ (seen _ _ u p.2) other
untouched s s' (move.Return t reply.Notified) u p other = one s s' t u _ (seen _ _ u p.2) other
untouched s s' (move.Return t reply.Yes) u p other = one s s' t u _ (seen _ _ u p.2) other
untouched s s' (move.Return t reply.No) u p other = one s s' t u _ (seen _ _ u p.2) other
untouched s s' (move.Return t reply.Done) u p other = one s s' t u _ (seen _ _ u p.2) other
untouched s s' (move.Return t reply.IllegalMonitorState) u p other = one s s' t u _ (seen _ _ u p.2) other
untouched s s' (move.Return t reply.IllegalArgument) u p other = one s s' t u _ (seen _ _ u p.2) other
untouched s s' (move.Return t (reply.Refused c)) u p other = one s s' t u _ (seen _ _ u p.2) other
untouched s s' (move.Lock t) u p other = one s s' t u _ (seen _ _ u p.5) other
untouched s s' (move.Unlock t) u p other = one s s' t u _ (seen _ _ u p.5) other
untouched s s' (move.Illegal t) u p other = one s s' t u _ (seen _ _ u p.6) other
untouched s s' (move.BadArgument t) u p other = one s s' t u _ (seen _ _ u p.7) other
untouched s s' (move.Early t) u p other = one s s' t u _ (seen _ _ u p.6) other
untouched s s' (move.Wait t) u p other = one s s' t u _ (seen _ _ u p.6) other
untouched s s' (move.Notify t (Some v)) u p other = seen _ _ u p.8 ∙ two_turned (u.0 == t.0) (u.0 == v.0) _ _ (s.thread u) other
untouched s s' (move.Notify t None) u p other = one s s' t u _ (seen _ _ u p.5) other
untouched s s' (move.NotifyAll t) u p other =
    let away = subst (λ x. is_touched s (touched_by_call t (call_in x)) u ≡ false) p.2 other in
    seen _ _ u p.4 ∙ woken (u.0 == t.0) p.1 _ (s.thread u) away
untouched s s' (move.Interrupt t) u p other =
    let away = subst (λ x. is_touched s (touched_by_call t (call_in x)) u ≡ false) p.3 other in
    seen _ _ u p.5 ∙ two (u.0 == t.0) (u.0 == p.1.0) _ _ (s.thread u) away
untouched s s' (move.TestClear t) u p other = one s s' t u _ (seen _ _ u p.2) other
untouched s s' (move.Expire t) u p other = one s s' t u _ (seen _ _ u p.6) other
untouched s s' (move.Spurious t) u p other = one s s' t u _ (seen _ _ u p.5) other
untouched s s' (move.Relock t) u p other = one s s' t u _ (seen _ _ u p.6) other
untouched s s' (move.Ask t) u p other = one s s' t u _ (seen _ _ u p.5) other
untouched s s' (move.Refuse t cause) u p other = one s s' t u _ (seen _ _ u p.4) other
untouched s s' (move.Time now) u p other = seen _ _ u p.1
untouched s s' (move.End t) u p other = one s s' t u _ (seen _ _ u p.3) other
