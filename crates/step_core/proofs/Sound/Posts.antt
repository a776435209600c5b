-- What a Go leaves of the posts of the threads, and how many berths are taken.
use Rattle.std.specs.Prelude.{◌≡◌, ◌≢◌, ◌⊎◌, ◌↔◌, ℕ, ◌+◌, ◌<◌, Bool, true, false, if◌then◌else◌, ◌==◌, nat_lt, cond, ℤ, List, length, set, count_by, Option, Some, None, IsSome, is_some, Result, Ok, Err}
use Rattle.std.specs.Option.{option_map}
use Rattle.std.specs.Ordering.{nat_cmp}
use Rattle.std.specs.FinMap as map
use Rattle.std.proofs.Common.{arith, refl, ap, sym, ◌∙◌, inl, inr, length-set}
use Rattle.std.proofs.lemmas.Bool.{cond_both}
use Rattle.std.proofs.lemmas.List.Sums.{sum_by-set, count_by-le-length}
use Rattle.lock_word.specs.declared.ThreadId.{ThreadId}
use Rattle.wait_lines.specs.declared.Role.{Role}
use Rattle.wait_lines.specs.declared.Role.TheVariants.{Entry, Waiting as WaitSet}
use Rattle.thread_index.specs.Indices.{holder_at}
use Rattle.fat_monitor.specs.declared.actions.Action.{Action}
use Rattle.fat_monitor.specs.declared.actions.Action.TheVariants as action
use Rattle.fat_monitor.specs.declared.actions.ActFault.{ActFault}
use Rattle.fat_monitor.specs.declared.actions.Done.{Done}
use Rattle.fat_monitor.specs.declared.actions.Post.{Post}
use Rattle.fat_monitor.specs.declared.actions.Post.TheVariants.{Out, Entering, Waiting, Back, Granted}
use Rattle.fat_monitor.specs.declared.actions.Why.{Why}
use Rattle.fat_monitor.specs.declared.actions.Why.TheVariants.{Notified, Interrupted}
use Rattle.fat_monitor.specs.FatState.{FatState, monitor_at, post_of, post_at, flag_at, flag_of, thread_count, IsAttached, IsHeld, first_of, with_owner, with_post, with_flag, is_owned_by}
use Rattle.fat_monitor.specs.FatState as book
use Rattle.fat_monitor.specs.Acting.{Outcome, outcome_of, enter_outcome, wait_outcome, notify_outcome, interrupt_outcome, flag_outcome, after_grant, after_settling, after_sending_back, after_removal, after_hand_on, are_good, deadline, holds_granted, reply_granted}
use Rattle.fat_monitor.proofs.Effects.{post-with_post_same, post-with_post_other, first_entering, first_waiting, post-after_removals, called_back}
use Rattle.fat_monitor.proofs.Flags.{threads-after_settling}
use Rattle.step_core.specs.Sound.{Agrees}
use Rattle.step_core.specs.Go.{place_after}

-- ---- other threads

-- as many threads, the same ones, and of those but t the same are out
abbrev pub KeepsPosts : FatState → ThreadId → FatState → Type 0
KeepsPosts f t g =
    (thread_count g ≡ thread_count f)
    × ((u : ThreadId) → IsAttached g u ↔ IsAttached f u)
    × ((u : ThreadId) → u ≢ t → (post_of g u ≡ Some Out) ↔ (post_of f u ≡ Some Out))

pub posts_same : (f : FatState) (t : ThreadId) (g : FatState) → g.threads ≡ f.threads → KeepsPosts f t g
posts_same f t g e = rw e (refl, (λ u. ((λ h. h), (λ h. h))), (λ u other. ((λ h. h), (λ h. h))))

-- ---- the thread that acts

-- its post is out where its call has a reply, and is not out where it parks
abbrev pub OwnPost : ThreadId → Result Done ActFault → FatState → Type 0
OwnPost t (Ok d) g = Agrees (place_after d.answer) (post_of g t)
OwnPost t (Err e) g = Unit {0}

abbrev Leaves : ThreadId → Outcome → Type 0
Leaves t o = OwnPost t o.answer o.after

either : (t : ThreadId) (b : Bool) (x y : Outcome) → Leaves t x → Leaves t y → Leaves t (if b then x else y)
either t true x y h k = h
either t false x y h k = k

-- a thread in a line is not one that is out
apart : (f : FatState) (t u : ThreadId) (p : Post) → post_of f t ≡ Some Out → post_of f u ≡ Some p → p ≢ Out → t ≢ u
apart f t u p out e other same = let both : Some p ≡ Some Out = sym e ∙ ap (λ (x : ThreadId). post_of f x) (sym same) ∙ out in other (cc)

-- the first of an entry line is another thread than one that is out
first_apart : (f : FatState) (t u : ThreadId) (m : ℕ) → post_of f t ≡ Some Out
    → ((post_of f u ≡ Some (Entering m)) ⊎ ((n : ℕ) × (w : Why) × (post_of f u ≡ Some (Back m n w)) × IsHeld n)) → t ≢ u
first_apart f t u m out (inl e) = apart f t u (Entering m) out e (λ x. cc)
first_apart f t u m out (inr (n, w, e, held)) = apart f t u (Back m n w) out e (λ x. cc)

-- whoever is granted a monitor leaves the posts of the others
post-after_grant_other : (f : FatState) (m : ℕ) (u t : ThreadId) (p : Post) (r : Role) → t ≢ u → post_of (after_grant f m u p r) t ≡ post_of f t
post-after_grant_other f m u t p r other =
    post-with_post_other (with_owner (after_settling f u p) m (Some u) (holds_granted p)) u t (Granted (reply_granted p)) other
    ∙ ap (λ (ps : map.FinMap nat_cmp Post). map.get ps t.0) (threads-after_settling f u p)

-- and so does whoever is taken out of its wait set
post-after_sending_back_other : (f : FatState) (u t : ThreadId) (m : ℕ) (p : Post) (o : Option ThreadId) → t ≢ u → post_of (after_sending_back f u m p o) t ≡ post_of f t
post-after_sending_back_other f u t m p (Some owner) other = post-with_post_other f u t p other
post-after_sending_back_other f u t m p None other = post-after_grant_other f m u t p WaitSet other

-- for whatever reason
post-after_removal_other : (f : FatState) (u t : ThreadId) (w : Why) (p : Post) → t ≢ u → post_of (after_removal f u w p) t ≡ post_of f t
post-after_removal_other f u t w Out other = refl
post-after_removal_other f u t w (Entering m) other = refl
post-after_removal_other f u t w (Waiting m n d) other = post-after_sending_back_other f u t m (Back m n w) (monitor_at f m).owner other
post-after_removal_other f u t w (Back m n x) other = refl
post-after_removal_other f u t w (Granted r) other = refl

-- whoever is out stays so when a monitor is handed on
handed_out : (f : FatState) (t : ThreadId) (m : ℕ) (o : Option ThreadId) → book.IsSound f → post_of f t ≡ Some Out → first_of f m Entry ≡ o
    → post_of (after_hand_on f m o) t ≡ Some Out
handed_out f t m None sound out e = out
handed_out f t m (Some u) sound out e =
    post-after_grant_other f m u t (post_at f u) Entry (first_apart f t u m out (first_entering f m u sound e)) ∙ out

-- and when another thread is taken out of its wait set
noticed_out : (f : FatState) (t : ThreadId) (m : ℕ) (o : Option ThreadId) → book.IsSound f → post_of f t ≡ Some Out → first_of f m WaitSet ≡ o
    → Leaves t (notify_outcome f o)
noticed_out f t m None sound out e = out
noticed_out f t m (Some u) sound out e =
    let (n, d, post, held) = first_waiting f m u sound e in
    post-after_removal_other f u t Notified (post_at f u) (apart f t u (Waiting m n d) out post (λ x. cc)) ∙ out

-- an interrupt of oneself, or of another thread, that waits or not
stirred_out : (f : FatState) (t u : ThreadId) (o : Option Post) → post_of f t ≡ Some Out → post_of f u ≡ o → Leaves t (interrupt_outcome f u o)
stirred_out f t u None out e = out
stirred_out f t u (Some Out) out e = out
stirred_out f t u (Some (Entering m)) out e = out
stirred_out f t u (Some (Waiting m n d)) out e =
    post-after_removal_other (with_flag f u true) u t Interrupted (Waiting m n d) (apart f t u (Waiting m n d) out e (λ x. cc)) ∙ out
stirred_out f t u (Some (Back m n w)) out e = out
stirred_out f t u (Some (Granted r)) out e = out

-- a question changes nothing
flag_outcome_out : (f : FatState) (t : ThreadId) (o : Option Bool) → post_of f t ≡ Some Out → Leaves t (flag_outcome f o)
flag_outcome_out f t None out = out
flag_outcome_out f t (Some flag) out = out

-- a thread that has another post than out is not out
parked_in : (f : FatState) (t : ThreadId) (p : Post) → p ≢ Out → post_of (with_post f t p) t ≢ Some Out
parked_in f t p other e = let both : Some p ≡ Some Out = sym (post-with_post_same f t p) ∙ e in other (cc)

-- what somebody owns has an owner
has_owner : (o : Option ThreadId) (t : ThreadId) → is_owned_by o t ≡ true → IsSome o
has_owner None t h = absurd (cc)
has_owner (Some u) t h = refl

-- an enter has its reply, or stands in the entry line
leaves_enter : (f : FatState) (t : ThreadId) (m : ℕ) (o : Option ThreadId) → post_of f t ≡ Some Out → Leaves t (enter_outcome f t m o)
leaves_enter f t m None out = out
leaves_enter f t m (Some u) out =
    either t (u.0 == t.0) _ _ (either t (nat_lt (monitor_at f m).holds 65535) _ _ out out) (parked_in f t (Entering m) (λ x. cc))

-- a wait has its reply, or stands in the wait set
leaves_wait : (f : FatState) (t : ThreadId) (m : ℕ) (millis nanos : ℤ) → post_of f t ≡ Some Out → Leaves t (wait_outcome f t m millis nanos)
leaves_wait f t m millis nanos out =
    either t (are_good millis nanos) _ _
    (either t (flag_at f t) _ _ out
    (parked_in (after_hand_on f m (first_of f m Entry)) t (Waiting m (monitor_at f m).holds (deadline f.moment millis nanos)) (λ x. cc))) out

-- What an action leaves of the post of the thread that makes it, which was out.
pub own_post : (f : FatState) (t : ThreadId) (a : Action) → book.IsSound f → post_of f t ≡ Some Out → a ≢ action.End
    → OwnPost t (outcome_of f t a).answer (outcome_of f t a).after
own_post f t (action.Enter m) sound out other = leaves_enter f t m (monitor_at f m).owner out
own_post f t (action.Exit m) sound out other =
    either t (is_owned_by (monitor_at f m).owner t) _ _
    (either t (nat_lt 1 (monitor_at f m).holds) _ _ out (handed_out f t m (first_of f m Entry) sound out refl)) out
own_post f t (action.Wait m millis nanos) sound out other =
    either t (is_owned_by (monitor_at f m).owner t) (wait_outcome f t m millis nanos) _ (leaves_wait f t m millis nanos out) out
own_post f t (action.Notify m) sound out other =
    either t (is_owned_by (monitor_at f m).owner t) (notify_outcome f (first_of f m WaitSet)) _ (noticed_out f t m (first_of f m WaitSet) sound out refl) out
own_post f t (action.NotifyAll m) sound out other =
    cond_both (is_owned_by (monitor_at f m).owner t) _ _ (Leaves t)
    (λ owns. post-after_removals f m t sound (has_owner (monitor_at f m).owner t owns) ∙ ap (λ (o : Option Post). option_map (called_back m) o) out) (λ _. out)
own_post f t (action.Holds m) sound out other = out
own_post f t (action.Interrupt u) sound out other = stirred_out f t u (post_of f u) out refl
own_post f t action.Interrupted sound out other = out
own_post f t (action.IsInterrupted u) sound out other = flag_outcome_out f t (flag_of f u) out
own_post f t action.Expire sound out other = rw out tt
own_post f t action.Spurious sound out other = rw out tt
own_post f t action.Collect sound out other = rw out tt
own_post f t action.End sound out other = absurd (other refl)

-- ---- taken berths

-- one berth more is taken
pub count_taken : (berths : List (Option ThreadId)) (k : ℕ) (t : ThreadId) → k < length berths → holder_at berths k ≡ None
    → count_by is_some (set berths k (Some t)) ≡ count_by is_some berths + 1
count_taken berths k t within free =
    let e = sum_by-set (λ (x : Option ThreadId). cond (is_some x) 1 0) berths k (Some t) None within in
    let none : cond {A = ℕ} (is_some (holder_at berths k)) 1 0 ≡ 0 = rw free refl in
    omega arith

-- and one fewer
pub count_given : (berths : List (Option ThreadId)) (k : ℕ) (t : ThreadId) → k < length berths → holder_at berths k ≡ Some t
    → count_by is_some (set berths k None) + 1 ≡ count_by is_some berths
count_given berths k t within held =
    let e = sum_by-set (λ (x : Option ThreadId). cond (is_some x) 1 0) berths k None None within in
    let one : cond {A = ℕ} (is_some (holder_at berths k)) 1 0 ≡ 1 = rw held refl in
    omega arith

-- where a berth is free, fewer are taken than there are
pub count_below : (berths : List (Option ThreadId)) (k : ℕ) (t : ThreadId) → k < length berths → holder_at berths k ≡ None
    → count_by is_some berths < length berths
count_below berths k t within free =
    let more = count_taken berths k t within free in
    let most = count_by-le-length is_some (set berths k (Some t)) in
    let size = length-set berths k (Some t) in
    omega arith
