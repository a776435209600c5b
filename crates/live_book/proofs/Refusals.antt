-- What a table row that tells, and one that refuses, leave.
use Rattle.std.specs.Prelude.{◌≡◌, ℕ, Bool, true, false, if◌then◌else◌, ◌==◌, nat_lt, Option, Some, None, Result, Err}
use Rattle.std.proofs.Common.{refl, sym, ap, ◌∙◌}
use Rattle.lock_word.specs.declared.ThreadId.{ThreadId}
use Rattle.wait_lines.specs.declared.Role.TheVariants.{Waiting as WaitSet}
use Rattle.fat_monitor.specs.declared.actions.Action.{Action}
use Rattle.fat_monitor.specs.declared.actions.Action.TheVariants as action
use Rattle.fat_monitor.specs.declared.actions.Answer.{Answer}
use Rattle.fat_monitor.specs.declared.actions.Done.{Done}
use Rattle.fat_monitor.specs.declared.actions.ActFault.{ActFault}
use Rattle.fat_monitor.specs.declared.actions.Post.{Post}
use Rattle.fat_monitor.specs.declared.actions.Post.TheVariants.{Out, Entering, Waiting, Back, Granted}
use Rattle.fat_monitor.specs.FatState.{FatState, monitor_at, post_of, post_at, flag_at, flag_of, first_of, is_owned_by, owns_one}
use Rattle.fat_monitor.specs.Acting.{Outcome, answers, outcome_of, enter_outcome, notify_outcome, interrupt_outcome, flag_outcome, expire_outcome, spurious_outcome, collect_outcome, are_good}

-- what was done, and what it left
pub done_after : (f g : FatState) (t : ThreadId) (a : Action) (r : Result Done ActFault) → record { answer = r; after = g } ≡ outcome_of f t a → g ≡ (outcome_of f t a).after
done_after f g t a r e = ap (λ (o : Outcome). o.after) e

pub done_answer : (f g : FatState) (t : ThreadId) (a : Action) (r : Result Done ActFault) → record { answer = r; after = g } ≡ outcome_of f t a → (outcome_of f t a).answer ≡ r
done_answer f g t a r e = sym (ap (λ (o : Outcome). o.answer) e)

-- an outcome that is a fault leaves everything
Spares : FatState → Outcome → Type 0
Spares f o = (e : ActFault) → o.answer ≡ Err e → o.after ≡ f

spares_answers : (f g : FatState) (r : Answer) (granted chosen : Option ThreadId) → Spares f (answers g r granted chosen)
unfolding Spares
spares_answers f g r granted chosen e is = absurd (cc)

spares_fault : (f : FatState) (e : ActFault) → Spares f (record { answer = Err e; after = f })
unfolding Spares
spares_fault f e x is = refl

either : (f : FatState) (b : Bool) (x y : Outcome) → Spares f x → Spares f y → Spares f (if b then x else y)
either f true x y h k = h
either f false x y h k = k

spares_enter : (f : FatState) (t : ThreadId) (m : ℕ) (o : Option ThreadId) → Spares f (enter_outcome f t m o)
spares_enter f t m None = spares_answers f _ _ _ _
spares_enter f t m (Some u) = either f (u.0 == t.0) _ _ (either f (nat_lt (monitor_at f m).holds 65535) _ _ (spares_answers f _ _ _ _) (spares_answers f _ _ _ _)) (spares_answers f _ _ _ _)

spares_notify : (f : FatState) (o : Option ThreadId) → Spares f (notify_outcome f o)
spares_notify f None = spares_answers f _ _ _ _
spares_notify f (Some u) = spares_answers f _ _ _ _

spares_interrupt : (f : FatState) (u : ThreadId) (o : Option Post) → Spares f (interrupt_outcome f u o)
spares_interrupt f u None = spares_answers f _ _ _ _
spares_interrupt f u (Some p) = spares_answers f _ _ _ _

spares_ask : (f : FatState) (o : Option Bool) → Spares f (flag_outcome f o)
spares_ask f None = spares_answers f _ _ _ _
spares_ask f (Some flag) = spares_answers f _ _ _ _

spares_expire : (f : FatState) (t : ThreadId) (p : Post) → Spares f (expire_outcome f t p)
spares_expire f t (Waiting m n (Some d)) = either f (nat_lt f.moment d) _ _ (spares_fault f _) (spares_answers f _ _ _ _)
spares_expire f t (Waiting m n None) = spares_fault f _
spares_expire f t Out = spares_fault f _
spares_expire f t (Entering m) = spares_fault f _
spares_expire f t (Back m n w) = spares_fault f _
spares_expire f t (Granted r) = spares_fault f _

spares_wake : (f : FatState) (t : ThreadId) (p : Post) → Spares f (spurious_outcome f t p)
spares_wake f t (Waiting m n d) = spares_answers f _ _ _ _
spares_wake f t Out = spares_fault f _
spares_wake f t (Entering m) = spares_fault f _
spares_wake f t (Back m n w) = spares_fault f _
spares_wake f t (Granted r) = spares_fault f _

spares_collect : (f : FatState) (t : ThreadId) (p : Post) → Spares f (collect_outcome f t p)
spares_collect f t (Granted r) = spares_answers f _ _ _ _
spares_collect f t Out = spares_fault f _
spares_collect f t (Entering m) = spares_fault f _
spares_collect f t (Waiting m n d) = spares_fault f _
spares_collect f t (Back m n w) = spares_fault f _

spares : (f : FatState) (t : ThreadId) (a : Action) → Spares f (outcome_of f t a)
spares f t (action.Enter m) = spares_enter f t m (monitor_at f m).owner
spares f t (action.Exit m) = either f (is_owned_by (monitor_at f m).owner t) _ _ (either f (nat_lt 1 (monitor_at f m).holds) _ _ (spares_answers f _ _ _ _) (spares_answers f _ _ _ _)) (spares_answers f _ _ _ _)
spares f t (action.Wait m millis nanos) =
    either f (is_owned_by (monitor_at f m).owner t) _ _
    (either f (are_good millis nanos) _ _ (either f (flag_at f t) _ _ (spares_answers f _ _ _ _) (spares_answers f _ _ _ _)) (spares_answers f _ _ _ _)) (spares_answers f _ _ _ _)
spares f t (action.Notify m) = either f (is_owned_by (monitor_at f m).owner t) _ _ (spares_notify f (first_of f m WaitSet)) (spares_answers f _ _ _ _)
spares f t (action.NotifyAll m) = either f (is_owned_by (monitor_at f m).owner t) _ _ (spares_answers f _ _ _ _) (spares_answers f _ _ _ _)
spares f t (action.Holds m) = spares_answers f _ _ _ _
spares f t (action.Interrupt u) = spares_interrupt f u (post_of f u)
spares f t action.Interrupted = spares_answers f _ _ _ _
spares f t (action.IsInterrupted u) = spares_ask f (flag_of f u)
spares f t action.Expire = spares_expire f t (post_at f t)
spares f t action.Spurious = spares_wake f t (post_at f t)
spares f t action.Collect = spares_collect f t (post_at f t)
spares f t action.End = either f (owns_one f.monitors t) _ _ (spares_answers f _ _ _ _) (spares_answers f _ _ _ _)

pub refused_after : (f g : FatState) (t : ThreadId) (a : Action) (e : ActFault) → record { answer = Err e; after = g } ≡ outcome_of f t a → g ≡ f
unfolding Spares
refused_after f g t a e is = done_after f g t a (Err e) is ∙ spares f t a e (done_answer f g t a (Err e) is)
