-- What an action changes of a fat state, and what it leaves.
use Rattle.std.specs.Prelude.{◌≡◌, ◌≢◌, ◌⊎◌, ◌↔◌, ℕ, ◌+◌, ◌-◌, ◌==◌, Bool, true, if◌then◌else◌, nat_lt, List, [], ◌∷◌, Option, Some, None, IsSome, is_some}
use Rattle.std.specs.Option.{unwrap_or}
use Rattle.std.specs.Ordering.{nat_cmp}
use Rattle.std.specs.Cmp.{nat_cmp_total}
use Rattle.std.specs.FinMap as map
use Rattle.std.specs.FinMap.{get-empty, len-insert, len-remove, empty_of_len}
use Rattle.std.proofs.Common.{refl, sym, ap, ◌∙◌, inl, inr, arith, subst}
use Rattle.std.proofs.lemmas.Bool.{cases_eq, eq-eqb, ne_eqb, cond-true, cond-false}
use Rattle.std.proofs.lemmas.Option.{same_Some}
use Rattle.lock_word.specs.declared.ThreadId.{ThreadId}
use Rattle.wait_lines.specs.declared.Role.{Role}
use Rattle.wait_lines.specs.declared.Role.TheVariants.{Entry, Waiting as WaitSet}
use Rattle.wait_lines.specs.Lines.{Key, key}
use Rattle.wait_lines.proofs.LineLemmas.{StandsIn-first}
use Rattle.wait_lines.proofs.ThreadLemmas.{same_thread}
use Rattle.fat_monitor.specs.declared.actions.Post.{Post}
use Rattle.fat_monitor.specs.declared.actions.Post.TheVariants.{Out, Entering, Waiting, Back, Granted}
use Rattle.fat_monitor.specs.declared.actions.Why.{Why}
use Rattle.fat_monitor.specs.declared.actions.Why.TheVariants as why
use Rattle.fat_monitor.specs.declared.actions.Action.{Action}
use Rattle.fat_monitor.specs.declared.actions.Action.TheVariants as action
use Rattle.fat_monitor.specs.FatState.{FatState, IsSound, IsAttached, monitor_at, post_of, post_at, thread_count, line_of, first_of, flag_at, flag_of, with_post, with_flag, with_thread, without_thread, line_key_of, is_owned_by, owns_one}
use Rattle.fat_monitor.specs.Acting.{Outcome, outcome_of, enter_outcome, exit_outcome, wait_outcome, notify_outcome, interrupt_outcome, flag_outcome, expire_outcome, spurious_outcome, collect_outcome, are_good, after_hand_on, after_sending_back, after_removals, after_parking, after_removal, reply_back, reply_granted, MayAct}
use Rattle.fat_monitor.proofs.PostMaps.{get-insert_by, get-remove_by}
use Rattle.fat_monitor.proofs.SoundGrants.{after_grant-is}
use Rattle.fat_monitor.proofs.MonitorEffects.{either}
pub use Rattle.fat_monitor.proofs.MonitorEffects.{named, monitors-after_removals, moment-after_removals, length-outcome_of, object-outcome_of, other-outcome_of}
pub use Rattle.fat_monitor.proofs.LineEffects.{post-with_post_same, post-with_post_other, first_entering, first_waiting, nobody_waiting, called_back, post-after_removals}

-- ---- posts

abbrev Posts : Type 0
Posts = map.FinMap nat_cmp Post

-- the same threads are attached, and of those but t the same are out
abbrev KeepsPosts : ℕ → Posts → Posts → Type 0
KeepsPosts t p q =
    (map.len q ≡ map.len p)
    × ((u : ℕ) → IsSome (map.get q u) ↔ IsSome (map.get p u))
    × ((u : ℕ) → u ≢ t → (map.get q u ≡ Some Out) ↔ (map.get p u ≡ Some Out))

KeepsPosts-same : (t : ℕ) (p : Posts) → KeepsPosts t p p
KeepsPosts-same t p = (refl, (λ u. ((λ h. h), (λ h. h))), (λ u other. ((λ h. h), (λ h. h))))

KeepsPosts-then : (t : ℕ) (p q r : Posts) → KeepsPosts t p q → KeepsPosts t q r → KeepsPosts t p r
KeepsPosts-then t p q r a b = (
  b.0 ∙ a.0,
  (λ u. ((λ h. (a.1 u).0 ((b.1 u).0 h)), (λ h. (b.1 u).1 ((a.1 u).1 h)))),
  (λ u other. ((λ h. (a.2 u other).0 ((b.2 u other).0 h)), (λ h. (b.2 u other).1 ((a.2 u other).1 h)))),
)

-- a new post of t, or of one that is not out and does not become so
KeepsPosts-insert : (t : ℕ) (p : Posts) (k : ℕ) (v : Post) → IsSome (map.get p k) → (k ≡ t) ⊎ ((map.get p k ≢ Some Out) × (v ≢ Out)) → KeepsPosts t p (map.insert p k v)
KeepsPosts-insert t p k v here why =
    (len-insert nat_cmp_total p k v ∙ cond-true (is_some (map.get p k)) _ _ here, (λ u. attached u (cases_eq u k)), (λ u other. out u other (cases_eq u k) why))
  where
    attached : (u : ℕ) → (u ≡ k) ⊎ (u ≡ k → ⊥) → IsSome (map.get (map.insert p k v) u) ↔ IsSome (map.get p u)
    attached u (inl same) = rw (same, get-insert_by p k v k, eq-eqb k k refl) ((λ h. here), (λ h. refl))
    attached u (inr other) = rw (get-insert_by p k v u, ne_eqb u k other) ((λ h. h), (λ h. h))

    out : (u : ℕ) → u ≢ t → (u ≡ k) ⊎ (u ≡ k → ⊥) → (k ≡ t) ⊎ ((map.get p k ≢ Some Out) × (v ≢ Out)) → (map.get (map.insert p k v) u ≡ Some Out) ↔ (map.get p u ≡ Some Out)
    out u other (inl same) (inl own) = absurd (other (same ∙ own))
    out u other (inl same) (inr not_out) =
        rw (same, get-insert_by p k v k, eq-eqb k k refl) ((λ h. absurd (not_out.1 (same_Some v Out h))), (λ h. absurd (not_out.0 h)))
    out u other (inr apart) w = rw (get-insert_by p k v u, ne_eqb u k apart) ((λ h. h), (λ h. h))

-- a waiter that gets a reply, or another line key, stays attached, and is not out
KeepsPosts-after_sending_back : (t : ℕ) (f : FatState) (u : ThreadId) (m n : ℕ) (d : Option ℕ) (w : Why) (o : Option ThreadId) → post_of f u ≡ Some (Waiting m n d)
    → KeepsPosts t f.threads (after_sending_back f u m (Back m n w) o).threads
KeepsPosts-after_sending_back t f u m n d w None e =
    subst (λ (g : FatState). KeepsPosts t f.threads g.threads) (sym (after_grant-is f m u (Back m n w) WaitSet))
    (KeepsPosts-insert t f.threads u.0 (Granted (reply_back w)) (rw e refl) (inr ((λ h. let x : Some (Waiting m n d) ≡ Some Out = sym e ∙ h in cc), (λ h. cc))))
KeepsPosts-after_sending_back t f u m n d w (Some v) e =
    KeepsPosts-insert t f.threads u.0 (Back m n w) (rw e refl) (inr ((λ h. let x : Some (Waiting m n d) ≡ Some Out = sym e ∙ h in cc), (λ h. cc)))

-- u, which has the post o, leaves its wait set
KeepsPosts-after_removal : (t : ℕ) (f : FatState) (u : ThreadId) (w : Why) (o : Option Post) → post_of f u ≡ o → KeepsPosts t f.threads (after_removal f u w (unwrap_or o Out)).threads
KeepsPosts-after_removal t f u w None e = KeepsPosts-same t f.threads
KeepsPosts-after_removal t f u w (Some Out) e = KeepsPosts-same t f.threads
KeepsPosts-after_removal t f u w (Some (Entering m)) e = KeepsPosts-same t f.threads
KeepsPosts-after_removal t f u w (Some (Waiting m n d)) e = KeepsPosts-after_sending_back t f u m n d w (monitor_at f m).owner e
KeepsPosts-after_removal t f u w (Some (Back m n x)) e = KeepsPosts-same t f.threads
KeepsPosts-after_removal t f u w (Some (Granted r)) e = KeepsPosts-same t f.threads

KeepsPosts-after_removals : (t : ℕ) (f : FatState) (us : List ThreadId) → KeepsPosts t f.threads (after_removals f us).threads
KeepsPosts-after_removals t f [] = KeepsPosts-same t f.threads
KeepsPosts-after_removals t f (u ∷ us) =
    KeepsPosts-then t f.threads (after_removal f u why.Notified (post_at f u)).threads (after_removals f (u ∷ us)).threads
    (KeepsPosts-after_removal t f u why.Notified (post_of f u) refl) (KeepsPosts-after_removals t (after_removal f u why.Notified (post_at f u)) us)

-- whoever has a line key is not out
not_out : (o : Option Post) (p : Post) (k : Key) → o ≡ Some p → line_key_of p ≡ Some k → o ≢ Some Out
not_out o p k e in_line h =
    let same : p ≡ Out = same_Some p Out (sym e ∙ h) in let none : line_key_of Out ≡ Some k = ap line_key_of (sym same) ∙ in_line in cc

-- the first of an entry line was not out, and has a grant after it
KeepsPosts-after_hand_on : (t : ℕ) (f : FatState) (m : ℕ) (o : Option ThreadId) → IsSound f → first_of f m Entry ≡ o → KeepsPosts t f.threads (after_hand_on f m o).threads
KeepsPosts-after_hand_on t f m None sound e = KeepsPosts-same t f.threads
KeepsPosts-after_hand_on t f m (Some u) sound e =
    let stood = sound.standing u m Entry (StandsIn-first f.standing.lines u m Entry e) in
    subst (λ (g : FatState). KeepsPosts t f.threads g.threads) (sym (after_grant-is f m u (post_at f u) Entry))
    (KeepsPosts-insert t f.threads u.0 (Granted (reply_granted (post_at f u))) (rw stood.1 refl) (inr (not_out (post_of f u) stood.0 (key m Entry) stood.1 stood.2, (λ h. cc))))

-- t has another post
KeepsPosts-own : (f : FatState) (t : ThreadId) (p : Post) → IsAttached f t → KeepsPosts t.0 f.threads (with_post f t p).threads
KeepsPosts-own f t p here = KeepsPosts-insert t.0 f.threads t.0 p here (inl refl)

-- the same, of the threads of two fat states
abbrev KeepsThreads : FatState → ThreadId → FatState → Type 0
KeepsThreads f t g = KeepsPosts t.0 f.threads g.threads

KeepsThreads-enter_outcome : (f : FatState) (t : ThreadId) (m : ℕ) (o : Option ThreadId) → IsAttached f t → KeepsThreads f t (enter_outcome f t m o).after
KeepsThreads-enter_outcome f t m None here = KeepsPosts-same t.0 f.threads
KeepsThreads-enter_outcome f t m (Some u) here =
    either (KeepsThreads f t) (u.0 == t.0) _ _
    (either (KeepsThreads f t) (nat_lt (monitor_at f m).holds 65535) _ _ (KeepsPosts-same t.0 f.threads) (KeepsPosts-same t.0 f.threads))
    (KeepsPosts-own f t (Entering m) here)

KeepsThreads-exit_outcome : (f : FatState) (t : ThreadId) (m : ℕ) → IsSound f → KeepsThreads f t (exit_outcome f t m).after
KeepsThreads-exit_outcome f t m sound =
    either (KeepsThreads f t) (nat_lt 1 (monitor_at f m).holds) _ _ (KeepsPosts-same t.0 f.threads) (KeepsPosts-after_hand_on t.0 f m (first_of f m Entry) sound refl)

-- t is parked after another was handed the monitor
KeepsThreads-after_parking : (f g : FatState) (t : ThreadId) (p : Post) (m : ℕ) (r : Role) → IsAttached f t → KeepsThreads f t g → KeepsThreads f t (after_parking g t p m r)
KeepsThreads-after_parking f g t p m r here kept = KeepsPosts-then t.0 f.threads g.threads (with_post g t p).threads kept (KeepsPosts-own g t p ((kept.1 t.0).1 here))

KeepsThreads-notify_outcome : (f : FatState) (t : ThreadId) (o : Option ThreadId) → KeepsThreads f t (notify_outcome f o).after
KeepsThreads-notify_outcome f t None = KeepsPosts-same t.0 f.threads
KeepsThreads-notify_outcome f t (Some u) = KeepsPosts-after_removal t.0 f u why.Notified (post_of f u) refl

KeepsThreads-interrupt_outcome : (f : FatState) (t u : ThreadId) (o : Option Post) → post_of f u ≡ o → KeepsThreads f t (interrupt_outcome f u o).after
KeepsThreads-interrupt_outcome f t u None e = KeepsPosts-same t.0 f.threads
KeepsThreads-interrupt_outcome f t u (Some p) e = KeepsPosts-after_removal t.0 (with_flag f u true) u why.Interrupted (Some p) e

KeepsThreads-flag_outcome : (f : FatState) (t : ThreadId) (o : Option Bool) → KeepsThreads f t (flag_outcome f o).after
KeepsThreads-flag_outcome f t None = KeepsPosts-same t.0 f.threads
KeepsThreads-flag_outcome f t (Some flag) = KeepsPosts-same t.0 f.threads

KeepsThreads-expire_outcome : (f : FatState) (t : ThreadId) (o : Option Post) → post_of f t ≡ o → KeepsThreads f t (expire_outcome f t (unwrap_or o Out)).after
KeepsThreads-expire_outcome f t None e = KeepsPosts-same t.0 f.threads
KeepsThreads-expire_outcome f t (Some Out) e = KeepsPosts-same t.0 f.threads
KeepsThreads-expire_outcome f t (Some (Entering m)) e = KeepsPosts-same t.0 f.threads
KeepsThreads-expire_outcome f t (Some (Waiting m n None)) e = KeepsPosts-same t.0 f.threads
KeepsThreads-expire_outcome f t (Some (Waiting m n (Some d))) e =
    either (KeepsThreads f t) (nat_lt f.moment d) _ _ (KeepsPosts-same t.0 f.threads) (KeepsPosts-after_removal t.0 f t why.Elapsed (Some (Waiting m n (Some d))) e)
KeepsThreads-expire_outcome f t (Some (Back m n w)) e = KeepsPosts-same t.0 f.threads
KeepsThreads-expire_outcome f t (Some (Granted r)) e = KeepsPosts-same t.0 f.threads

KeepsThreads-spurious_outcome : (f : FatState) (t : ThreadId) (o : Option Post) → post_of f t ≡ o → KeepsThreads f t (spurious_outcome f t (unwrap_or o Out)).after
KeepsThreads-spurious_outcome f t None e = KeepsPosts-same t.0 f.threads
KeepsThreads-spurious_outcome f t (Some Out) e = KeepsPosts-same t.0 f.threads
KeepsThreads-spurious_outcome f t (Some (Entering m)) e = KeepsPosts-same t.0 f.threads
KeepsThreads-spurious_outcome f t (Some (Waiting m n d)) e = KeepsPosts-after_removal t.0 f t why.Spurious (Some (Waiting m n d)) e
KeepsThreads-spurious_outcome f t (Some (Back m n w)) e = KeepsPosts-same t.0 f.threads
KeepsThreads-spurious_outcome f t (Some (Granted r)) e = KeepsPosts-same t.0 f.threads

KeepsThreads-collect_outcome : (f : FatState) (t : ThreadId) (p : Post) → IsAttached f t → KeepsThreads f t (collect_outcome f t p).after
KeepsThreads-collect_outcome f t Out here = KeepsPosts-same t.0 f.threads
KeepsThreads-collect_outcome f t (Entering m) here = KeepsPosts-same t.0 f.threads
KeepsThreads-collect_outcome f t (Waiting m n d) here = KeepsPosts-same t.0 f.threads
KeepsThreads-collect_outcome f t (Back m n w) here = KeepsPosts-same t.0 f.threads
KeepsThreads-collect_outcome f t (Granted r) here = KeepsPosts-own f t Out here

KeepsThreads-by_owner : (f : FatState) (t : ThreadId) (m : ℕ) (x y : Outcome) → KeepsThreads f t x.after → y.after ≡ f → KeepsThreads f t (if is_owned_by (monitor_at f m).owner t then x else y).after
KeepsThreads-by_owner f t m x y h e = either (KeepsThreads f t) (is_owned_by (monitor_at f m).owner t) x y h (rw e (KeepsPosts-same t.0 f.threads))

attached_out : (f : FatState) (t : ThreadId) → post_of f t ≡ Some Out → IsAttached f t
attached_out f t e = rw e refl

KeepsThreads-outcome_of : (f : FatState) (t : ThreadId) (a : Action) → IsSound f → MayAct f t a → a ≢ action.End → KeepsThreads f t (outcome_of f t a).after
KeepsThreads-outcome_of f t (action.Enter m) sound may other = KeepsThreads-enter_outcome f t m (monitor_at f m).owner (attached_out f t may)
KeepsThreads-outcome_of f t (action.Exit m) sound may other = KeepsThreads-by_owner f t m (exit_outcome f t m) _ (KeepsThreads-exit_outcome f t m sound) refl
KeepsThreads-outcome_of f t (action.Wait m millis nanos) sound may other =
    KeepsThreads-by_owner f t m (wait_outcome f t m millis nanos) _
    (either (KeepsThreads f t) (are_good millis nanos) _ _
    (either (KeepsThreads f t) (flag_at f t) _ _ (KeepsPosts-same t.0 f.threads)
    (KeepsThreads-after_parking f (after_hand_on f m (first_of f m Entry)) t _ m WaitSet (attached_out f t may) (KeepsPosts-after_hand_on t.0 f m (first_of f m Entry) sound refl)))
    (KeepsPosts-same t.0 f.threads)) refl
KeepsThreads-outcome_of f t (action.Notify m) sound may other = KeepsThreads-by_owner f t m (notify_outcome f (first_of f m WaitSet)) _ (KeepsThreads-notify_outcome f t (first_of f m WaitSet)) refl
KeepsThreads-outcome_of f t (action.NotifyAll m) sound may other = KeepsThreads-by_owner f t m _ _ (KeepsPosts-after_removals t.0 f (line_of f m WaitSet)) refl
KeepsThreads-outcome_of f t (action.Holds m) sound may other = KeepsPosts-same t.0 f.threads
KeepsThreads-outcome_of f t (action.Interrupt u) sound may other = KeepsThreads-interrupt_outcome f t u (post_of f u) refl
KeepsThreads-outcome_of f t action.Interrupted sound may other = KeepsPosts-same t.0 f.threads
KeepsThreads-outcome_of f t (action.IsInterrupted u) sound may other = KeepsThreads-flag_outcome f t (flag_of f u)
KeepsThreads-outcome_of f t action.Expire sound may other = KeepsThreads-expire_outcome f t (post_of f t) refl
KeepsThreads-outcome_of f t action.Spurious sound may other = KeepsThreads-spurious_outcome f t (post_of f t) refl
KeepsThreads-outcome_of f t action.Collect sound may other = KeepsThreads-collect_outcome f t (post_at f t) may
KeepsThreads-outcome_of f t action.End sound may other = absurd (other refl)

-- only an End takes a thread away, and no action attaches one
pub count-outcome_of : (f : FatState) (t : ThreadId) (a : Action) → IsSound f → MayAct f t a → a ≢ action.End → thread_count (outcome_of f t a).after ≡ thread_count f
count-outcome_of f t a sound may other = (KeepsThreads-outcome_of f t a sound may other).0

pub attached-outcome_of : (f : FatState) (t u : ThreadId) (a : Action) → IsSound f → MayAct f t a → a ≢ action.End → IsAttached (outcome_of f t a).after u ↔ IsAttached f u
attached-outcome_of f t u a sound may other = (KeepsThreads-outcome_of f t a sound may other).1 u.0

-- the third part, for any action but an End
out_kept : (f : FatState) (t u : ThreadId) (a : Action) → IsSound f → MayAct f t a → u ≢ t → a ≢ action.End → (post_of (outcome_of f t a).after u ≡ Some Out) ↔ (post_of f u ≡ Some Out)
out_kept f t u a sound may apart other = (KeepsThreads-outcome_of f t a sound may other).2 u.0 (λ e. apart (same_thread t u e))

post-without_thread_other : (f : FatState) (t u : ThreadId) → u ≢ t → post_of (without_thread f t) u ≡ post_of f u
post-without_thread_other f t u other = get-remove_by f.threads t.0 u.0 ∙ cond-false (u.0 == t.0) _ _ (ne_eqb u.0 t.0 (λ e. other (same_thread t u e)))

-- another thread that is out stays out, and one that is not does not become so
pub out-outcome_of : (f : FatState) (t u : ThreadId) (a : Action) → IsSound f → MayAct f t a → u ≢ t → (post_of (outcome_of f t a).after u ≡ Some Out) ↔ (post_of f u ≡ Some Out)
out-outcome_of f t u (action.Enter m) sound may apart = out_kept f t u (action.Enter m) sound may apart (λ e. cc)
out-outcome_of f t u (action.Exit m) sound may apart = out_kept f t u (action.Exit m) sound may apart (λ e. cc)
out-outcome_of f t u (action.Wait m millis nanos) sound may apart = out_kept f t u (action.Wait m millis nanos) sound may apart (λ e. cc)
out-outcome_of f t u (action.Notify m) sound may apart = out_kept f t u (action.Notify m) sound may apart (λ e. cc)
out-outcome_of f t u (action.NotifyAll m) sound may apart = out_kept f t u (action.NotifyAll m) sound may apart (λ e. cc)
out-outcome_of f t u (action.Holds m) sound may apart = out_kept f t u (action.Holds m) sound may apart (λ e. cc)
out-outcome_of f t u (action.Interrupt v) sound may apart = out_kept f t u (action.Interrupt v) sound may apart (λ e. cc)
out-outcome_of f t u action.Interrupted sound may apart = out_kept f t u action.Interrupted sound may apart (λ e. cc)
out-outcome_of f t u (action.IsInterrupted v) sound may apart = out_kept f t u (action.IsInterrupted v) sound may apart (λ e. cc)
out-outcome_of f t u action.Expire sound may apart = out_kept f t u action.Expire sound may apart (λ e. cc)
out-outcome_of f t u action.Spurious sound may apart = out_kept f t u action.Spurious sound may apart (λ e. cc)
out-outcome_of f t u action.Collect sound may apart = out_kept f t u action.Collect sound may apart (λ e. cc)
out-outcome_of f t u action.End sound may apart =
    either (λ (g : FatState). (post_of g u ≡ Some Out) ↔ (post_of f u ≡ Some Out)) (owns_one f.monitors t) _ _ ((λ h. h), (λ h. h))
    ((λ h. sym (post-without_thread_other f t u apart) ∙ h), (λ h. post-without_thread_other f t u apart ∙ h))

-- the counts of threads after an attach and after an end
pub count-with_thread : (f : FatState) (t : ThreadId) → post_of f t ≡ None → thread_count (with_thread f t) ≡ thread_count f + 1
count-with_thread f t fresh = len-insert nat_cmp_total f.threads t.0 Out ∙ cond-false (is_some (post_of f t)) _ _ (rw fresh refl)

pub count-without_thread : (f : FatState) (t : ThreadId) → IsAttached f t → thread_count (without_thread f t) + 1 ≡ thread_count f
count-without_thread f t here = at (cases_eq (thread_count f) 0)
  where
    fewer : thread_count (without_thread f t) ≡ thread_count f - 1
    fewer = len-remove nat_cmp_total f.threads t.0 ∙ cond-true (is_some (post_of f t)) _ _ here

    nobody_here : thread_count f ≡ 0 → post_of f t ≡ None
    nobody_here e = ap (λ (p : Posts). map.get p t.0) (empty_of_len f.threads e) ∙ get-empty nat_cmp t.0

    at : (thread_count f ≡ 0) ⊎ (thread_count f ≡ 0 → ⊥) → thread_count (without_thread f t) + 1 ≡ thread_count f
    at (inl e) = let none : is_some {T = Post} None ≡ true = rw (nobody_here e) at here in absurd (cc)
    at (inr some) = let e = fewer in omega arith
