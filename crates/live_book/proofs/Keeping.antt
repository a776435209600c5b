-- What each action changes of the kept places, and that it finds a place for its deed.
use Rattle.std.specs.Prelude.{◌≡◌, ℕ, ◌+◌, ◌-◌, ◌<◌, ◌≤◌, Bool, true, false, if◌then◌else◌, ◌==◌, nat_lt, ℤ, length, Option, Some, None, Result, Ok, Err}
use Rattle.std.specs.Option.{unwrap_or}
use Rattle.std.proofs.Common.{refl, sym, ap, ◌∙◌, arith, subst}
use Rattle.std.proofs.lemmas.Bool.{ltb-false}
use Rattle.lock_word.specs.declared.ThreadId.{ThreadId}
use Rattle.wait_lines.specs.declared.Role.TheVariants.{Entry, Waiting as WaitSet}
use Rattle.fat_monitor.specs.declared.actions.Cause.TheVariants.{TooDeep}
use Rattle.fat_monitor.specs.declared.actions.Why.TheVariants as why
use Rattle.fat_monitor.specs.declared.actions.Reply.TheVariants as reply
use Rattle.fat_monitor.specs.declared.actions.Action.{Action}
use Rattle.fat_monitor.specs.declared.actions.Action.TheVariants as action
use Rattle.fat_monitor.specs.declared.actions.Answer.{Answer}
use Rattle.fat_monitor.specs.declared.actions.Answer.TheVariants as answer
use Rattle.fat_monitor.specs.declared.actions.Done.{Done}
use Rattle.fat_monitor.specs.declared.actions.ActFault.{ActFault}
use Rattle.fat_monitor.specs.declared.actions.Post.{Post}
use Rattle.fat_monitor.specs.declared.actions.Post.TheVariants.{Out, Entering, Waiting, Back, Granted}
use Rattle.fat_monitor.specs.FatState.{FatState, IsSound, monitor_at, post_of, post_at, flag_at, flag_of, line_of, first_of, with_owner, with_post, with_flag, wait_count, is_owned_by}
use Rattle.fat_monitor.specs.Acting.{Outcome, answers, replies, after_parking, after_hand_on, enter_outcome, exit_outcome, notify_outcome, interrupt_outcome, flag_outcome, expire_outcome, collect_outcome, after_removal, after_removals, granted_by_removal, outcome_of, are_good, deadline, MayAct, NamesBound}
use Rattle.fat_monitor.proofs.Soundness.{owner_is}
use Rattle.fat_monitor.proofs.SoundGrants.{out-after_hand_on}
use Rattle.fat_monitor.proofs.SoundSteps.{IsSound-flags}
use Rattle.live_book.specs.Log.{IsForBook}
use Rattle.live_book.specs.Places.{kept_of, need, gained, freed}
use Rattle.live_book.proofs.Weights.{kept-with_post, kept-with_owner, kept-after_hand_on}
use Rattle.live_book.proofs.Removing.{Removes, removes_none, after_removal-one, after_removal-some, after_removals-some}

-- After an action with this answer as many places are kept as its gains and what it frees say, and with its deed no more
-- are used or kept than it needed free before.
pub record KeepsWith (f : FatState) (t : ThreadId) (a : Action) (g : FatState) (r : Answer) : Type 0 where
  pub kept : kept_of g + freed a r (wait_count f.threads) (wait_count g.threads) ≡ kept_of f + gained a r
  pub needs : 1 + gained a r ≤ need f t a + freed a r (wait_count f.threads) (wait_count g.threads)

-- so it is of an outcome that is no fault
pub Keeps : FatState → ThreadId → Action → Outcome → Type 0
Keeps f t a o = (d : Done) → o.answer ≡ Ok d → KeepsWith f t a o.after d.answer

abbrev answer_in : Result Done ActFault → Answer
answer_in (Ok d) = d.answer
answer_in (Err e) = answer.Quiet

-- what was told is the answer
keeps_answers : (f : FatState) (t : ThreadId) (a : Action) (g : FatState) (r : Answer) (granted chosen : Option ThreadId) → KeepsWith f t a g r → Keeps f t a (answers g r granted chosen)
unfolding Keeps
keeps_answers f t a g r granted chosen k d e = subst (λ (x : Answer). KeepsWith f t a g x) (ap answer_in e) k

keeps_fault : (f g : FatState) (t : ThreadId) (a : Action) (e : ActFault) → Keeps f t a (record { answer = Err e; after = g })
unfolding Keeps
keeps_fault f g t a e d is = absurd (cc)

either : (P : Outcome → Type 0) (b : Bool) (x y : Outcome) → (b ≡ true → P x) → (b ≡ false → P y) → P (if b then x else y)
either P true x y h k = h refl
either P false x y h k = k refl

-- ---- enter

owned_once : (f : FatState) (t : ThreadId) (m : ℕ) (o : Option ThreadId) (n : ℕ) → m < length f.monitors → n ≡ (monitor_at f m).holds + 1
    → Keeps f t (action.Enter m) (replies (with_owner f m o n) reply.Entered)
owned_once f t m o n lt is =
    keeps_answers f t (action.Enter m) _ _ _ _ (record { kept = (let k = kept-with_owner f m o n lt in omega arith); needs = omega arith })

too_deep : (f : FatState) (t : ThreadId) (m : ℕ) → Keeps f t (action.Enter m) (replies f (reply.Refused TooDeep))
too_deep f t m = keeps_answers f t (action.Enter m) _ _ _ _ (record { kept = omega arith; needs = omega arith })

queues : (f : FatState) (t : ThreadId) (m : ℕ) → post_of f t ≡ Some Out → Keeps f t (action.Enter m) (answers (after_parking f t (Entering m) m Entry) answer.Parked None None)
queues f t m out =
    keeps_answers f t (action.Enter m) _ _ _ _ (record { kept = (let k = kept-with_post f t (Entering m) Out out in omega arith); needs = omega arith })

keeps_enter : (f : FatState) (t : ThreadId) (m : ℕ) (o : Option ThreadId) → IsSound f → m < length f.monitors → post_of f t ≡ Some Out → (monitor_at f m).owner ≡ o
    → Keeps f t (action.Enter m) (enter_outcome f t m o)
keeps_enter f t m None sound lt out e =
    let none : (monitor_at f m).holds ≡ 0 = (sound.fair m lt).1.0 e in owned_once f t m (Some t) 1 lt (omega arith)
keeps_enter f t m (Some u) sound lt out e =
    either (Keeps f t (action.Enter m)) (u.0 == t.0) _ _
    (λ same. either (Keeps f t (action.Enter m)) (nat_lt (monitor_at f m).holds 65535) _ _ (λ few. owned_once f t m (Some u) _ lt refl) (λ many. too_deep f t m))
    (λ other. queues f t m out)

-- ---- exit and wait

-- nothing is kept more or less, and the deed uses the place that it needed
keeps_same : (f g : FatState) (t : ThreadId) (a : Action) (r : Answer) → kept_of g ≡ kept_of f → gained a r ≡ 0 → freed a r (wait_count f.threads) (wait_count g.threads) ≡ 0 → 1 ≤ need f t a → KeepsWith f t a g r
keeps_same f g t a r same none neither some = record { kept = omega arith; needs = omega arith }

need_exit : (f : FatState) (t : ThreadId) (m : ℕ) → is_owned_by (monitor_at f m).owner t ≡ false → 1 ≤ need f t (action.Exit m)
need_exit f t m other = rw other (omega arith)

keeps_exit_by_owner : (f : FatState) (t : ThreadId) (m : ℕ) → IsSound f → m < length f.monitors → (monitor_at f m).owner ≡ Some t → Keeps f t (action.Exit m) (exit_outcome f t m)
keeps_exit_by_owner f t m sound lt owned =
    let held : ¬ ((monitor_at f m).holds ≡ 0) = λ none. let never : None ≡ Some t = sym ((sound.fair m lt).1.1 none) ∙ owned in absurd (cc) in
    either (Keeps f t (action.Exit m)) (nat_lt 1 (monitor_at f m).holds) _ _
    (λ more.
    keeps_answers f t (action.Exit m) _ _ _ _ (record { kept = (let k = kept-with_owner f m (Some t) ((monitor_at f m).holds - 1) lt in omega arith); needs = omega arith }))
    (λ last.
    let n = ltb-false 1 (monitor_at f m).holds last in
    keeps_answers f t (action.Exit m) _ _ _ _ (record { kept = (let k = kept-after_hand_on f m sound lt in omega arith); needs = omega arith }))

keeps_exit : (f : FatState) (t : ThreadId) (m : ℕ) → IsSound f → m < length f.monitors → Keeps f t (action.Exit m) (outcome_of f t (action.Exit m))
keeps_exit f t m sound lt =
    either (Keeps f t (action.Exit m)) (is_owned_by (monitor_at f m).owner t) _ _
    (λ own. keeps_exit_by_owner f t m sound lt (owner_is (monitor_at f m).owner t own))
    (λ other. keeps_answers f t (action.Exit m) _ _ _ _ (keeps_same f f t (action.Exit m) _ refl refl refl (need_exit f t m other)))

keeps_wait : (f : FatState) (t : ThreadId) (m : ℕ) (millis nanos : ℤ) → IsSound f → m < length f.monitors → post_of f t ≡ Some Out → Keeps f t (action.Wait m millis nanos) (outcome_of f t (action.Wait m millis nanos))
keeps_wait f t m millis nanos sound lt out =
    either P (is_owned_by (monitor_at f m).owner t) _ _
    (λ own.
    either P (are_good millis nanos) _ _
    (λ good.
    either P (flag_at f t) _ _ (λ flagged. says (with_flag f t false) (answer.Reply reply.Interrupted) None None refl refl) (λ clear. waits (owner_is (monitor_at f m).owner t own)))
    (λ bad. says f (answer.Reply reply.IllegalArgument) None None refl refl))
    (λ other. says f (answer.Reply reply.IllegalMonitorState) None None refl refl)
  where
    P : Outcome → Type 0
    P = Keeps f t (action.Wait m millis nanos)

    says : (g : FatState) (r : Answer) (granted chosen : Option ThreadId) → kept_of g ≡ kept_of f → gained (action.Wait m millis nanos) r ≡ 0 → P (answers g r granted chosen)
    says g r granted chosen same none = keeps_answers f t (action.Wait m millis nanos) g r granted chosen (keeps_same f g t (action.Wait m millis nanos) r same none refl (omega arith))

    waits : (monitor_at f m).owner ≡ Some t
        → P (answers (after_parking (after_hand_on f m (first_of f m Entry)) t (Waiting m (monitor_at f m).holds (deadline f.moment millis nanos)) m WaitSet) answer.Parked (first_of f m Entry) None)
    waits owned =
        let handed = kept-after_hand_on f m sound lt in
        let parked_at = kept-with_post (after_hand_on f m (first_of f m Entry)) t (Waiting m (monitor_at f m).holds (deadline f.moment millis nanos)) Out (out-after_hand_on f t m sound out) in
        keeps_answers f t (action.Wait m millis nanos) _ _ _ _ (record { kept = omega arith; needs = omega arith })

-- ---- what takes threads out of wait sets

-- what an action frees where it frees a place for each thread that it took out
abbrev FreesRemoved : Action → Type 0
FreesRemoved a = (r : Answer) (n k : ℕ) → (freed a r n k ≡ n - k) × (gained a r ≡ 0)

keeps_removed : (f g : FatState) (t : ThreadId) (a : Action) (r : Answer) (granted chosen : Option ThreadId) (k : ℕ) → FreesRemoved a → 1 ≤ need f t a + k → Removes f g k → Keeps f t a (answers g r granted chosen)
keeps_removed f g t a r granted chosen k frees some removes =
    let kept = removes.0 in
    let waits = removes.1 in
    let less = (frees r (wait_count f.threads) (wait_count g.threads)).0 in
    let none = (frees r (wait_count f.threads) (wait_count g.threads)).1 in
    keeps_answers f t a g r granted chosen (record { kept = omega arith; needs = omega arith })

keeps_notify_outcome : (f : FatState) (t : ThreadId) (m : ℕ) (o : Option ThreadId) → IsSound f → Keeps f t (action.Notify m) (notify_outcome f o)
keeps_notify_outcome f t m None sound = keeps_removed f f t (action.Notify m) _ None None 0 (λ r n k. (refl, refl)) (omega arith) (removes_none f)
keeps_notify_outcome f t m (Some u) sound =
    let some = after_removal-some f u why.Notified (post_of f u) sound refl in
    keeps_removed f (after_removal f u why.Notified (post_at f u)) t (action.Notify m) _ None (Some u) some.0 (λ r n k. (refl, refl)) (omega arith) some.1

keeps_notify : (f : FatState) (t : ThreadId) (m : ℕ) → IsSound f → Keeps f t (action.Notify m) (outcome_of f t (action.Notify m))
keeps_notify f t m sound =
    either (Keeps f t (action.Notify m)) (is_owned_by (monitor_at f m).owner t) _ _
    (λ own. keeps_notify_outcome f t m (first_of f m WaitSet) sound)
    (λ other. keeps_removed f f t (action.Notify m) _ None None 0 (λ r n k. (refl, refl)) (omega arith) (removes_none f))

keeps_notify_all : (f : FatState) (t : ThreadId) (m : ℕ) → IsSound f → Keeps f t (action.NotifyAll m) (outcome_of f t (action.NotifyAll m))
keeps_notify_all f t m sound =
    let some = after_removals-some f (line_of f m WaitSet) sound in
    either (Keeps f t (action.NotifyAll m)) (is_owned_by (monitor_at f m).owner t) _ _
    (λ own. keeps_removed f (after_removals f (line_of f m WaitSet)) t (action.NotifyAll m) _ None None some.0 (λ r n k. (refl, refl)) (omega arith) some.1)
    (λ other. keeps_removed f f t (action.NotifyAll m) _ None None 0 (λ r n k. (refl, refl)) (omega arith) (removes_none f))

keeps_interrupt : (f : FatState) (t u : ThreadId) (o : Option Post) → IsSound f → post_of f u ≡ o → Keeps f t (action.Interrupt u) (interrupt_outcome f u o)
keeps_interrupt f t u None sound is = keeps_removed f f t (action.Interrupt u) _ None None 0 (λ r n k. (refl, refl)) (omega arith) (removes_none f)
keeps_interrupt f t u (Some p) sound is =
    let some = after_removal-some (with_flag f u true) u why.Interrupted (Some p) (IsSound-flags f _ sound) is in
    keeps_removed f (after_removal (with_flag f u true) u why.Interrupted p) t (action.Interrupt u) _ (granted_by_removal f u p) None some.0 (λ r n k. (refl, refl)) (omega arith) some.1

keeps_expire : (f : FatState) (t : ThreadId) (o : Option Post) → IsSound f → post_of f t ≡ o → Keeps f t action.Expire (expire_outcome f t (unwrap_or o Out))
keeps_expire f t None sound is = keeps_fault f f t action.Expire _
keeps_expire f t (Some Out) sound is = keeps_fault f f t action.Expire _
keeps_expire f t (Some (Entering m)) sound is = keeps_fault f f t action.Expire _
keeps_expire f t (Some (Waiting m n None)) sound is = keeps_fault f f t action.Expire _
keeps_expire f t (Some (Waiting m n (Some d))) sound is =
    either (Keeps f t action.Expire) (nat_lt f.moment d) _ _ (λ early. keeps_fault f f t action.Expire _)
    (λ due.
    keeps_removed f (after_removal f t why.Elapsed (Waiting m n (Some d))) t action.Expire _ (granted_by_removal f t (Waiting m n (Some d))) None 1 (λ r n k. (refl, refl)) (omega arith)
    (after_removal-one f t why.Elapsed m n (Some d) sound is))
keeps_expire f t (Some (Back m n w)) sound is = keeps_fault f f t action.Expire _
keeps_expire f t (Some (Granted r)) sound is = keeps_fault f f t action.Expire _

-- ---- collect, and what changes no post

keeps_collect : (f : FatState) (t : ThreadId) (o : Option Post) → post_of f t ≡ o → Keeps f t action.Collect (collect_outcome f t (unwrap_or o Out))
keeps_collect f t None is = keeps_fault f f t action.Collect _
keeps_collect f t (Some Out) is = keeps_fault f f t action.Collect _
keeps_collect f t (Some (Entering m)) is = keeps_fault f f t action.Collect _
keeps_collect f t (Some (Waiting m n d)) is = keeps_fault f f t action.Collect _
keeps_collect f t (Some (Back m n w)) is = keeps_fault f f t action.Collect _
keeps_collect f t (Some (Granted r)) is =
    keeps_answers f t action.Collect (with_post f t Out) (answer.Reply r) None None (record { kept = (let k = kept-with_post f t Out (Granted r) is in omega arith); needs = omega arith })

keeps_flag_outcome : (f : FatState) (t u : ThreadId) (o : Option Bool) → Keeps f t (action.IsInterrupted u) (flag_outcome f o)
keeps_flag_outcome f t u None = keeps_answers f t (action.IsInterrupted u) f _ None None (keeps_same f f t (action.IsInterrupted u) _ refl refl refl (omega arith))
keeps_flag_outcome f t u (Some flag) = keeps_answers f t (action.IsInterrupted u) f _ None None (keeps_same f f t (action.IsInterrupted u) _ refl refl refl (omega arith))

-- Each action of a book keeps so.
pub keeps : (f : FatState) (t : ThreadId) (a : Action) → IsSound f → IsForBook a → MayAct f t a → NamesBound f a → Keeps f t a (outcome_of f t a)
keeps f t (action.Enter m) sound for may bound = keeps_enter f t m (monitor_at f m).owner sound bound may refl
keeps f t (action.Exit m) sound for may bound = keeps_exit f t m sound bound
keeps f t (action.Wait m millis nanos) sound for may bound = keeps_wait f t m millis nanos sound bound may
keeps f t (action.Notify m) sound for may bound = keeps_notify f t m sound
keeps f t (action.NotifyAll m) sound for may bound = keeps_notify_all f t m sound
keeps f t (action.Holds m) sound for may bound =
    keeps_answers f t (action.Holds m) f _ None None (keeps_same f f t (action.Holds m) _ refl refl refl (omega arith))
keeps f t (action.Interrupt u) sound for may bound = keeps_interrupt f t u (post_of f u) sound refl
keeps f t action.Interrupted sound for may bound =
    keeps_answers f t action.Interrupted (with_flag f t false) _ None None (keeps_same f (with_flag f t false) t action.Interrupted _ refl refl refl (omega arith))
keeps f t (action.IsInterrupted u) sound for may bound = keeps_flag_outcome f t u (flag_of f u)
keeps f t action.Expire sound for may bound = keeps_expire f t (post_of f t) sound refl
keeps f t action.Spurious sound for may bound = absurd for
keeps f t action.Collect sound for may bound = keeps_collect f t (post_of f t) refl
keeps f t action.End sound for may bound = absurd for

pub keeps_with : (f : FatState) (t : ThreadId) (a : Action) (d : Done) → IsSound f → IsForBook a → MayAct f t a → NamesBound f a → (outcome_of f t a).answer ≡ Ok d → KeepsWith f t a (outcome_of f t a).after d.answer
unfolding Keeps
keeps_with f t a d sound for may bound told = keeps f t a sound for may bound d told
