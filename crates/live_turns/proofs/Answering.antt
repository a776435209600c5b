-- What a fat action of a live call answers, and for what it is refused.
use Rattle.std.specs.Option.{unwrap_or}
use Rattle.std.specs.Prelude.{◌≡◌, ◌⊎◌, ℕ, ◌==◌, Bool, true, false, nat_lt, Option, Some, None, IfSome, Result, Ok, Err, MatchResult}
use Rattle.std.proofs.Common.{refl, inl, inr, sym, ap, subst}
use Rattle.std.proofs.lemmas.Bool.{cond_both}
use Rattle.lock_word.specs.declared.ThreadId.{ThreadId}
use Rattle.fat_monitor.specs.declared.actions.Action.{Action}
use Rattle.fat_monitor.specs.declared.actions.Action.TheVariants as action
use Rattle.fat_monitor.specs.declared.actions.ActFault.{ActFault}
use Rattle.fat_monitor.specs.declared.actions.Answer.{Answer}
use Rattle.fat_monitor.specs.declared.actions.Answer.TheVariants as answer
use Rattle.fat_monitor.specs.declared.actions.Done.{Done}
use Rattle.fat_monitor.specs.declared.actions.Reply.{Reply}
use Rattle.fat_monitor.specs.declared.actions.Reply.TheVariants as reply
use Rattle.fat_monitor.specs.declared.actions.Post.{Post}
use Rattle.fat_monitor.specs.declared.actions.Post.TheVariants.{Out, Entering, Waiting, Back, Granted}
use Rattle.fat_monitor.specs.FatState.{FatState, IsProper, post_of, monitor_at, flag_at, flag_of, is_owned_by}
use Rattle.fat_monitor.specs.Acting.{Outcome, outcome_of, by_owner, enter_outcome, exit_outcome, wait_outcome, notify_outcome, interrupt_outcome, flag_outcome, collect_outcome, replies, are_good}
use Rattle.fat_monitor.specs.Replies.{yes_or_no}
use Rattle.fast_path.specs.declared.calls.Operation.{Operation}
use Rattle.fast_path.specs.declared.calls.Operation.TheVariants as op
use Rattle.fast_path.specs.declared.calls.InterruptCall.{InterruptCall}
use Rattle.fast_path.specs.declared.calls.InterruptCall.TheVariants as about
use Rattle.step_core.specs.Go.{action_on, action_about}
use Rattle.live_turns.specs.Ways.{MayAnswer}

-- an outcome that may be told of this action
abbrev IsSaid : Action → Outcome → Type 0
IsSaid a o = MatchResult o.answer (λ d. MayAnswer a d.answer) (λ e. ⊥)

owner_said : (a : Action) (f : FatState) (m : ℕ) (t : ThreadId) (o : Outcome) → IsSaid a o → IsSaid a (by_owner f m t o)
owner_said a f m t o h = cond_both (is_owned_by (monitor_at f m).owner t) o (replies f reply.IllegalMonitorState) (IsSaid a) (λ _. h) (λ _. tt)

answers_yes : (a : Action) (b : Bool) → MayAnswer a (answer.Reply (yes_or_no b))
answers_yes a true = tt
answers_yes a false = tt

on_said : (f : FatState) (t : ThreadId) (p : Operation) (m : ℕ) → IsSaid (action_on p m) (outcome_of f t (action_on p m))
on_said f t op.Enter m = at (monitor_at f m).owner
  where
    at : (owner : Option ThreadId) → IsSaid (action.Enter m) (enter_outcome f t m owner)
    at None = tt
    at (Some u) = cond_both (u.0 == t.0) _ _ (IsSaid (action.Enter m)) (λ _. cond_both (nat_lt (monitor_at f m).holds 65535) _ _ (IsSaid (action.Enter m)) (λ _. tt) (λ _. refl)) (λ _. tt)
on_said f t op.Exit m =
    owner_said (action.Exit m) f m t (exit_outcome f t m) (cond_both (nat_lt 1 (monitor_at f m).holds) _ _ (IsSaid (action.Exit m)) (λ _. tt) (λ _. tt))
on_said f t (op.Wait millis nanos) m =
    let a = action.Wait m millis nanos in
    owner_said a f m t (wait_outcome f t m millis nanos) (cond_both (are_good millis nanos) _ _ (IsSaid a) (λ _. cond_both (flag_at f t) _ _ (IsSaid a) (λ _. tt) (λ _. tt)) (λ _. tt))
on_said f t op.Notify m = owner_said (action.Notify m) f m t _ (at _)
  where
    at : (first : Option ThreadId) → IsSaid (action.Notify m) (notify_outcome f first)
    at None = tt
    at (Some u) = tt
on_said f t op.NotifyAll m = owner_said (action.NotifyAll m) f m t _ tt
on_said f t op.Holds m = answers_yes (action.Holds m) (is_owned_by (monitor_at f m).owner t)

about_said : (f : FatState) (t : ThreadId) (c : InterruptCall) → IsSaid (action_about c) (outcome_of f t (action_about c))
about_said f t (about.Interrupt who) = at (post_of f who)
  where
    at : (o : Option Post) → IsSaid (action.Interrupt who) (interrupt_outcome f who o)
    at None = refl
    at (Some p) = tt
about_said f t about.Interrupted = answers_yes action.Interrupted (flag_at f t)
about_said f t (about.IsInterrupted who) = at (flag_of f who)
  where
    at : (o : Option Bool) → IsSaid (action.IsInterrupted who) (flag_outcome f o)
    at None = refl
    at (Some flag) = answers_yes (action.IsInterrupted who) flag

of_done : (a : Action) (r : Result Done ActFault) (d : Done) → MatchResult r (λ d. MayAnswer a d.answer) (λ e. ⊥) → r ≡ Ok d → MayAnswer a d.answer
of_done a r d h e = subst (λ (r : Result Done ActFault). MatchResult r (λ d. MayAnswer a d.answer) (λ e. ⊥)) e h

pub on_answers : (f : FatState) (t : ThreadId) (p : Operation) (m : ℕ) (d : Done) → (outcome_of f t (action_on p m)).answer ≡ Ok d → MayAnswer (action_on p m) d.answer
on_answers f t p m d e = of_done (action_on p m) (outcome_of f t (action_on p m)).answer d (on_said f t p m) e

pub about_answers : (f : FatState) (t : ThreadId) (c : InterruptCall) (d : Done) → (outcome_of f t (action_about c)).answer ≡ Ok d → MayAnswer (action_about c) d.answer
about_answers f t c d e = of_done (action_about c) (outcome_of f t (action_about c)).answer d (about_said f t c) e

-- a reply that was granted is none of a refusal
granted_answers : (r : Reply) → ((r ≡ reply.Entered) ⊎ ((r ≡ reply.WaitOver) ⊎ (r ≡ reply.Interrupted))) → MayAnswer action.Collect (answer.Reply r)
granted_answers r (inl e) = subst (λ (x : Reply). MayAnswer action.Collect (answer.Reply x)) (sym e) tt
granted_answers r (inr (inl e)) = subst (λ (x : Reply). MayAnswer action.Collect (answer.Reply x)) (sym e) tt
granted_answers r (inr (inr e)) = subst (λ (x : Reply). MayAnswer action.Collect (answer.Reply x)) (sym e) tt

-- what an outcome answers, if it does
abbrev pub answer_in : Result Done ActFault → Answer
answer_in (Ok d) = d.answer
answer_in (Err e) = answer.Parked

collect_of_proper : (f : FatState) (t : ThreadId) (p : Post) (d : Done) → IsProper f p → (collect_outcome f t p).answer ≡ Ok d → MayAnswer action.Collect d.answer
collect_of_proper f t (Granted r) d proper e = subst (λ (x : Answer). MayAnswer action.Collect x) (ap answer_in e) (granted_answers r proper)
collect_of_proper f t Out d proper e = absurd (cc)
collect_of_proper f t (Entering m) d proper e = absurd (cc)
collect_of_proper f t (Waiting m n x) d proper e = absurd (cc)
collect_of_proper f t (Back m n w) d proper e = absurd (cc)

pub collect_answers : (f : FatState) (t : ThreadId) (d : Done) → IfSome (post_of f t) (IsProper f) → (outcome_of f t action.Collect).answer ≡ Ok d → MayAnswer action.Collect d.answer
collect_answers f t d proper e = at (post_of f t) proper e
  where
    at : (o : Option Post) → IfSome o (IsProper f) → (collect_outcome f t (unwrap_or o Out)).answer ≡ Ok d → MayAnswer action.Collect d.answer
    at None h k = absurd (cc)
    at (Some p) h k = collect_of_proper f t p d h k
