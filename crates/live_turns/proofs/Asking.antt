-- What a desk may ask of its book, and what its answers are.
use Rattle.std.specs.Prelude.{◌≡◌, ◌<◌, ◌≤◌, ℕ, Bool, true, false, if◌then◌else◌, nat_lt, Option, Some, None, IsSome, length, Result, Ok, Err, IsOk, MatchResult}
use Rattle.std.proofs.Common.{refl, arith, sym, ◌∙◌, ap, subst}
use Rattle.std.proofs.lemmas.Bool.{cond_both, ltb-true}
use Rattle.std.specs.Option.{unwrap_or}
use Rattle.std.proofs.lemmas.Option.{slice_get_within}
use Rattle.std.proofs.lemmas.List.{length-map}
use Rattle.lock_word.specs.declared.ThreadId.{ThreadId}
use Rattle.fat_monitor.specs.declared.actions.Action.{Action}
use Rattle.fat_monitor.specs.declared.actions.Action.TheVariants as action
use Rattle.fat_monitor.specs.declared.actions.Done.{Done}
use Rattle.fat_monitor.specs.declared.actions.ActFault.{ActFault}
use Rattle.fat_monitor.specs.declared.actions.Answer.{Answer}
use Rattle.fat_monitor.specs.declared.actions.Answer.TheVariants as answer
use Rattle.fat_monitor.specs.declared.actions.Reply.{Reply}
use Rattle.fat_monitor.specs.declared.actions.Post.{Post}
use Rattle.fat_monitor.specs.declared.actions.Post.TheVariants.{Out, Entering, Waiting, Back, Granted}
use Rattle.fat_monitor.specs.declared.monitors.Monitor.{Monitor}
use Rattle.fat_monitor.specs.FatState.{FatState, post_of, post_at, objects_of, IsAttached}
use Rattle.fat_monitor.specs.Acting.{Outcome, outcome_of, collect_outcome, expire_outcome, not_due, answers, MayAct, NamesBound}
use Rattle.fast_path.specs.declared.calls.Operation.{Operation}
use Rattle.fast_path.specs.declared.calls.Operation.TheVariants as op
use Rattle.fast_path.specs.declared.calls.InterruptCall.{InterruptCall}
use Rattle.fast_path.specs.declared.calls.InterruptCall.TheVariants as about
use Rattle.header_words.specs.Bindings.{Binds}
use Rattle.step_core.specs.Go.{action_on, action_about}
use Rattle.step_core.specs.Ready.{IsOwnAction}
use Rattle.step_core.specs.Path.{IsTold}
use Rattle.step_core.proofs.Clauses.Patient.{done, own_on, own_about}
use Rattle.live_book.specs.Log.{IsForBook}
use Rattle.live_book.specs.Book.{BookState, act_answer, free_of, told}
use Rattle.live_book.specs.declared.faults.BookFault.{BookFault}
use Rattle.live_book.specs.declared.faults.BookFault.TheVariants as book
use Rattle.live_book.specs.Places.{need}
use Rattle.live_book.specs.declared.faults.LiveFault.{LiveFault}
use Rattle.live_turns.specs.Asked.{own_action, live_answer, IsAwake}
use Rattle.live_turns.specs.Ways.{MayAnswer}
use Rattle.live_turns.proofs.Answering.{answer_in, collect_answers}

pub on_for_book : (p : Operation) (m : ℕ) → IsForBook (action_on p m)
on_for_book op.Enter m = tt
on_for_book op.Exit m = tt
on_for_book (op.Wait millis nanos) m = tt
on_for_book op.Notify m = tt
on_for_book op.NotifyAll m = tt
on_for_book op.Holds m = tt

pub on_may_act : (f : FatState) (t : ThreadId) (p : Operation) (m : ℕ) → post_of f t ≡ Some Out → MayAct f t (action_on p m)
on_may_act f t op.Enter m h = h
on_may_act f t op.Exit m h = h
on_may_act f t (op.Wait millis nanos) m h = h
on_may_act f t op.Notify m h = h
on_may_act f t op.NotifyAll m h = h
on_may_act f t op.Holds m h = h

within : (f : FatState) (m o : ℕ) → Binds (objects_of f) m o → m < length f.monitors
within f m o h =
    let same : length (objects_of f) ≡ length f.monitors = length-map f.monitors (λ (x : Monitor). x.object) in
    let lt : m < length (objects_of f) = slice_get_within (objects_of f) m (record { 0 = o }) h in omega arith

pub on_names_bound : (f : FatState) (p : Operation) (m o : ℕ) → Binds (objects_of f) m o → NamesBound f (action_on p m)
on_names_bound f op.Enter m o h = within f m o h
on_names_bound f op.Exit m o h = within f m o h
on_names_bound f (op.Wait millis nanos) m o h = within f m o h
on_names_bound f op.Notify m o h = within f m o h
on_names_bound f op.NotifyAll m o h = within f m o h
on_names_bound f op.Holds m o h = within f m o h

pub about_for_book : (c : InterruptCall) → IsForBook (action_about c)
about_for_book (about.Interrupt u) = tt
about_for_book about.Interrupted = tt
about_for_book (about.IsInterrupted u) = tt

pub about_may_act : (f : FatState) (t : ThreadId) (c : InterruptCall) → post_of f t ≡ Some Out → MayAct f t (action_about c)
about_may_act f t (about.Interrupt u) h = h
about_may_act f t about.Interrupted h = h
about_may_act f t (about.IsInterrupted u) h = h

pub about_names_bound : (f : FatState) (c : InterruptCall) → NamesBound f (action_about c)
about_names_bound f (about.Interrupt u) = tt
about_names_bound f about.Interrupted = tt
about_names_bound f (about.IsInterrupted u) = tt

-- what was done by an action of a call's own replied or parked
told_by : (f : FatState) (t : ThreadId) (a : Action) (d : Done) → IsOwnAction a → (outcome_of f t a).answer ≡ Ok d → IsTold d.answer
told_by f t a d own e = subst (λ (r : Result Done ActFault). MatchResult r (λ d. IsTold d.answer) (λ e. ⊥)) e (done f t a own)

pub told_on : (f : FatState) (t : ThreadId) (p : Operation) (m : ℕ) (d : Done) → (outcome_of f t (action_on p m)).answer ≡ Ok d → IsTold d.answer
told_on f t p m d e = told_by f t (action_on p m) d (own_on p m) e

pub told_about : (f : FatState) (t : ThreadId) (c : InterruptCall) (d : Done) → (outcome_of f t (action_about c)).answer ≡ Ok d → IsTold d.answer
told_about f t c d e = told_by f t (action_about c) d (own_about c) e

pub attached : (f : FatState) (t : ThreadId) (p : Post) → post_of f t ≡ Some p → IsAttached f t
attached f t p e = subst (λ (x : Option Post). IsSome x) (sym e) refl

-- a collect that is made has a reply
collect_of : (f : FatState) (t : ThreadId) (p : Post) (d : Done) → (collect_outcome f t p).answer ≡ Ok d → (r : Reply) × (d.answer ≡ answer.Reply r)
collect_of f t (Granted r) d e = (r, sym (ap answer_in e))
collect_of f t Out d e = absurd (cc)
collect_of f t (Entering m) d e = absurd (cc)
collect_of f t (Waiting m n x) d e = absurd (cc)
collect_of f t (Back m n w) d e = absurd (cc)

pub collect_replies : (f : FatState) (t : ThreadId) (d : Done) → (outcome_of f t action.Collect).answer ≡ Ok d → (r : Reply) × (d.answer ≡ answer.Reply r)
collect_replies f t d e = collect_of f t (post_at f t) d e

-- an expire that is made is quiet
Quietly : Outcome → Type 0
Quietly o = (d : Done) → o.answer ≡ Ok d → d.answer ≡ answer.Quiet

not_due_quiet : (f : FatState) → Quietly (not_due f)
unfolding Quietly
not_due_quiet f d e = absurd (cc)

quiet_answers : (f : FatState) (g c : Option ThreadId) → Quietly (answers f answer.Quiet g c)
unfolding Quietly
quiet_answers f g c d e = sym (ap answer_in e)

-- an outcome by cases
either : (b : Bool) (x y : Outcome) → Quietly x → Quietly y → Quietly (if b then x else y)
either true x y h k = h
either false x y h k = k

expire_of : (f : FatState) (t : ThreadId) (p : Post) → Quietly (expire_outcome f t p)
expire_of f t (Waiting m n (Some x)) = either _ _ _ (not_due_quiet f) (quiet_answers _ _ _)
expire_of f t (Waiting m n None) = not_due_quiet f
expire_of f t Out = not_due_quiet f
expire_of f t (Entering m) = not_due_quiet f
expire_of f t (Back m n w) = not_due_quiet f
expire_of f t (Granted r) = not_due_quiet f

pub expire_quiet : (f : FatState) (t : ThreadId) (d : Done) → (outcome_of f t action.Expire).answer ≡ Ok d → d.answer ≡ answer.Quiet
unfolding Quietly
expire_quiet f t d e = expire_of f t (post_at f t) d e

-- What the list of a pass's own gets by a deed of the thread's own, where the answer is the one that comes of it.
pub collect_action : (d : Done) → (r : Reply) × (d.answer ≡ answer.Reply r) → own_action d.answer ≡ action.Collect
collect_action d h = ap own_action h.1

pub expire_action : (d : Done) → d.answer ≡ answer.Quiet → own_action d.answer ≡ action.Expire
expire_action d h = ap own_action h

pub collect_awake : (b : Bool) (d : Done) → (r : Reply) × (d.answer ≡ answer.Reply r) → MayAnswer action.Collect d.answer → IsAwake b d.answer
collect_awake b d h may = subst (λ (x : Answer). IsAwake b x) (sym h.1) (subst (λ (x : Answer). MayAnswer action.Collect x) h.1 may)

pub expire_awake : (b : Bool) (d : Done) → b ≡ false → d.answer ≡ answer.Quiet → IsAwake b d.answer
expire_awake b d first h = subst (λ (x : Answer). IsAwake b x) (sym h) first

-- A collect of a reply that was granted is made, and so is an expire that is due: each has its place of the record.
by_kept : (b : BookState) (t : ThreadId) (a : Action) → need b.fats t a ≡ 0 → ((d : Done) × (told (outcome_of b.fats t a).answer ≡ Ok d)) → (d : Done) × (act_answer b t a ≡ Ok d)
by_kept b t a none made =
    cond_both (nat_lt (free_of b) (need b.fats t a)) (Err book.RecordFull) (told (outcome_of b.fats t a).answer) (λ (x : Result Done BookFault). (d : Done) × (x ≡ Ok d))
    (λ lt. absurd (let l : free_of b < need b.fats t a = ltb-true (free_of b) (need b.fats t a) lt in omega arith)) (λ _. made)

told_is_made : (x : Result Done LiveFault) (y : Result Done BookFault) → x ≡ live_answer y → ((d : Done) × (y ≡ Ok d)) → IsOk x
told_is_made x y is made = subst (λ (r : Result Done LiveFault). IsOk r) (sym (is ∙ ap live_answer made.1)) refl

pub collect_made : (b : BookState) (t : ThreadId) (r : Reply) (x : Result Done LiveFault) → post_of b.fats t ≡ Some (Granted r) → x ≡ live_answer (act_answer b t action.Collect) → IsOk x
collect_made b t r x at is =
    told_is_made x (act_answer b t action.Collect) is (by_kept b t action.Collect refl
    (subst (λ (o : Option Post). (d : Done) × (told (collect_outcome b.fats t (unwrap_or o Out)).answer ≡ Ok d)) (sym at) (_, refl)))

expire_is_due : (f : FatState) (t : ThreadId) (m n y : ℕ) → y ≤ f.moment → (d : Done) × (told (expire_outcome f t (Waiting m n (Some y))).answer ≡ Ok d)
expire_is_due f t m n y due =
    cond_both (nat_lt f.moment y) _ _ (λ (o : Outcome). (d : Done) × (told o.answer ≡ Ok d)) (λ lt. absurd (let l : f.moment < y = ltb-true f.moment y lt in omega arith)) (λ _. (_, refl))

pub expire_made : (b : BookState) (t : ThreadId) (m n y : ℕ) (x : Result Done LiveFault) → post_of b.fats t ≡ Some (Waiting m n (Some y)) → y ≤ b.fats.moment → x ≡ live_answer (act_answer b t action.Expire) → IsOk x
expire_made b t m n y x at due is =
    told_is_made x (act_answer b t action.Expire) is (by_kept b t action.Expire refl
    (subst (λ (o : Option Post). (d : Done) × (told (expire_outcome b.fats t (unwrap_or o Out)).answer ≡ Ok d)) (sym at) (expire_is_due b.fats t m n y due)))

pub ruleset asking = (on_for_book, on_may_act, on_names_bound, about_for_book, about_may_act, about_names_bound, told_on, told_about)

pub ruleset waking = (attached, collect_replies, collect_answers, expire_quiet, collect_action, expire_action, collect_awake, expire_awake, collect_made, expire_made)
