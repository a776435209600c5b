-- Fat states stay sound where a thread is granted a monitor, and where the owner waits.
use Rattle.std.specs.Prelude.{◌≡◌, ◌≢◌, ℕ, ◌<◌, Bool, length, slice_set, Option, Some, None}
use Rattle.std.specs.Ordering.{nat_cmp}
use Rattle.std.specs.FinMap as map
use Rattle.std.proofs.Common.{refl, sym, ap, ◌∙◌, subst, inl, inr, arith, length-set}
use Rattle.std.proofs.lemmas.Option.{same_Some}
use Rattle.lock_word.specs.declared.ThreadId.{ThreadId}
use Rattle.wait_lines.specs.declared.Role.{Role}
use Rattle.wait_lines.specs.declared.Role.TheVariants.{Entry, Waiting as WaitSet}
use Rattle.wait_lines.specs.Lines.{key, StandsIn, after_leave}
use Rattle.wait_lines.proofs.LineLemmas.{StandsIn-first, StandsNowhere-after_leave}
use Rattle.fat_monitor.specs.declared.actions.Post.{Post}
use Rattle.fat_monitor.specs.declared.actions.Post.TheVariants.{Out, Entering, Waiting, Back, Granted}
use Rattle.fat_monitor.specs.declared.actions.Why.TheVariants as why
use Rattle.fat_monitor.specs.declared.monitors.Monitor.{Monitor}
use Rattle.fat_monitor.specs.FatState.{FatState, IsSound, IsProper, IsHeld, ComesBack, monitor_at, post_of, post_at, first_of, with_owner, with_post, with_lines, line_key_of}
use Rattle.fat_monitor.specs.Acting.{after_grant, after_settling, after_hand_on, after_parking, holds_granted, reply_granted}
use Rattle.fat_monitor.proofs.SoundSteps.{get-written_other, standing_bound, monitor-written, IsSound-flags, IsSound-after_leave, IsSound-with_owner}
use Rattle.fat_monitor.proofs.SoundOwners.{owned_holds, stands_nowhere, post_at-is, owned_bound, holds_owned, IsSound-freed, IsSound-waiting}

-- ---- grants

-- what a thread comes back to is held, and its reply is one of a grant
holds_granted-held : (p : Post) → ComesBack p → IsHeld (holds_granted p)
holds_granted-held Out held = (omega arith, omega arith)
holds_granted-held (Entering m) held = (omega arith, omega arith)
holds_granted-held (Waiting m n d) held = (omega arith, omega arith)
holds_granted-held (Back m n w) held = held
holds_granted-held (Granted r) held = (omega arith, omega arith)

-- a proper post has holds to get back that it may have
pub comes_back : (f : FatState) (p : Post) → IsProper f p → ComesBack p
comes_back f Out proper = tt
comes_back f (Entering m) proper = tt
comes_back f (Waiting m n d) proper = tt
comes_back f (Back m n w) proper = proper.1
comes_back f (Granted r) proper = tt

-- the reply of a grant is of an enter or of a wait
reply_granted-proper : (f : FatState) (p : Post) → IsProper f (Granted (reply_granted p))
reply_granted-proper f Out = inl refl
reply_granted-proper f (Entering m) = inl refl
reply_granted-proper f (Waiting m n d) = inl refl
reply_granted-proper f (Back m n why.Notified) = inr (inl refl)
reply_granted-proper f (Back m n why.Interrupted) = inr (inr refl)
reply_granted-proper f (Back m n why.Elapsed) = inr (inl refl)
reply_granted-proper f (Back m n why.Spurious) = inr (inl refl)
reply_granted-proper f (Granted r) = inl refl

-- a grant but for the flag that it clears
abbrev pub flags_after_grant : FatState → ThreadId → Post → map.FinMap nat_cmp Bool
flags_after_grant f u p = (after_settling f u p).flags

abbrev pub after_grant_with : FatState → ℕ → ThreadId → Post → Role → map.FinMap nat_cmp Bool → FatState
after_grant_with f m u p r flags = record f {
  monitors = slice_set f.monitors m (record (monitor_at f m) { owner = Some u; holds = holds_granted p });
  threads = map.insert f.threads u.0 (Granted (reply_granted p));
  flags = flags;
  standing = record f.standing { lines = after_leave f.standing.lines u m r };
}

-- a wait that is settled changes the flag of its thread alone
pub after_settling-is : (f : FatState) (u : ThreadId) (p : Post) → after_settling f u p ≡ record f { flags = flags_after_grant f u p }
after_settling-is f u Out = refl
after_settling-is f u (Entering m) = refl
after_settling-is f u (Waiting m n d) = refl
after_settling-is f u (Back m n why.Notified) = refl
after_settling-is f u (Back m n why.Interrupted) = refl
after_settling-is f u (Back m n why.Elapsed) = refl
after_settling-is f u (Back m n why.Spurious) = refl
after_settling-is f u (Granted r) = refl

pub after_grant-is : (f : FatState) (m : ℕ) (u : ThreadId) (p : Post) (r : Role) → after_grant f m u p r ≡ after_grant_with f m u p r (flags_after_grant f u p)
after_grant-is f m u p r =
    ap (λ (g : FatState). with_lines (with_post (with_owner g m (Some u) (holds_granted p)) u (Granted (reply_granted p))) (after_leave f.standing.lines u m r)) (after_settling-is f u p)

-- a thread that stands in a line leaves it and owns the monitor
pub IsSound-after_grant : (f : FatState) (m : ℕ) (u : ThreadId) (p q : Post) (r : Role) → IsSound f → post_of f u ≡ Some q → line_key_of q ≡ Some (key m r) → ComesBack p → IsSound (after_grant f m u p r)
IsSound-after_grant f m u p q r sound here in_line comes =
    subst (λ g. IsSound g) (sym (after_grant-is f m u p r))
    (IsSound-flags unflagged (flags_after_grant f u p)
    (IsSound-with_owner outside m (Some u) (holds_granted p) (IsSound-after_leave f u q (Granted (reply_granted p)) m r sound here in_line (reply_granted-proper f p) refl)
    (standing_bound f u m r sound stood) held.1 (owned_holds u (holds_granted p) held.0) (λ v stands_in. refl)
    (λ v s stands_in owns. StandsNowhere-after_leave f.standing u m r sound.orderly stood m s (subst (λ x. StandsIn outside.standing.lines x m s) (sym (same_Some u v owns)) stands_in))))
  where
    outside : FatState
    outside = with_lines (with_post f u (Granted (reply_granted p))) (after_leave f.standing.lines u m r)

    unflagged : FatState
    unflagged = with_owner outside m (Some u) (holds_granted p)

    stood : StandsIn f.standing.lines u m r
    stood = sound.posted u q m r here in_line

    held : IsHeld (holds_granted p)
    held = holds_granted-held p comes

-- the same, of whoever stands in an entry line
pub IsSound-after_grant_next : (f : FatState) (m : ℕ) (u : ThreadId) → IsSound f → StandsIn f.standing.lines u m Entry → IsSound (after_grant f m u (post_at f u) Entry)
IsSound-after_grant_next f m u sound stands_in =
    let post = sound.standing u m Entry stands_in in
    subst (λ p. IsSound (after_grant f m u p Entry)) (sym (post_at-is f u post.0 post.1))
    (IsSound-after_grant f m u post.0 post.0 Entry sound post.1 post.2 (comes_back f post.0 (sound.proper u post.0 post.1)))

-- a monitor goes to the first of its entry line, or to nobody
pub IsSound-after_hand_on : (f : FatState) (m : ℕ) → IsSound f → m < length f.monitors → IsSound (after_hand_on f m (first_of f m Entry))
IsSound-after_hand_on f m sound bound = by_first (first_of f m Entry) refl
  where
    by_first : (o : Option ThreadId) → first_of f m Entry ≡ o → IsSound (after_hand_on f m o)
    by_first None first = IsSound-freed f m sound bound first
    by_first (Some u) first = IsSound-after_grant_next f m u sound (StandsIn-first f.standing.lines u m Entry first)

-- no monitor comes or goes when one is handed on
pub length-after_hand_on : (f : FatState) (m : ℕ) (o : Option ThreadId) → length (after_hand_on f m o).monitors ≡ length f.monitors
length-after_hand_on f m None = length-set f.monitors m (record (monitor_at f m) { owner = None; holds = 0 })
length-after_hand_on f m (Some u) =
    ap (λ (g : FatState). length g.monitors) (after_grant-is f m u (post_at f u) Entry)
    ∙ length-set f.monitors m (record (monitor_at f m) { owner = Some u; holds = holds_granted (post_at f u) })

-- its owner is then the thread to which it went
pub owner-after_hand_on : (f : FatState) (m : ℕ) (o : Option ThreadId) → m < length f.monitors → (monitor_at (after_hand_on f m o) m).owner ≡ o
owner-after_hand_on f m None bound = ap (λ (b : Monitor). b.owner) (monitor-written f m None 0 bound)
owner-after_hand_on f m (Some u) bound =
    ap (λ (g : FatState). (monitor_at g m).owner) (after_grant-is f m u (post_at f u) Entry)
    ∙ ap (λ (b : Monitor). b.owner) (monitor-written f m (Some u) (holds_granted (post_at f u)) bound)

-- a thread that is out is first in no line
pub first_other : (f : FatState) (t : ThreadId) (m : ℕ) (r : Role) → IsSound f → post_of f t ≡ Some Out → first_of f m r ≢ Some t
first_other f t m r sound out first = stands_nowhere f t sound out m r (StandsIn-first f.standing.lines t m r first)

-- and it stays out when a monitor is handed on
pub out-after_hand_on : (f : FatState) (t : ThreadId) (m : ℕ) → IsSound f → post_of f t ≡ Some Out → post_of (after_hand_on f m (first_of f m Entry)) t ≡ Some Out
out-after_hand_on f t m sound out = by_first (first_of f m Entry) (first_other f t m Entry sound out)
  where
    by_first : (o : Option ThreadId) → o ≢ Some t → post_of (after_hand_on f m o) t ≡ Some Out
    by_first None other = out
    by_first (Some u) other =
        ap (λ (g : FatState). post_of g t) (after_grant-is f m u (post_at f u) Entry)
        ∙ get-written_other f.threads u t (Granted (reply_granted (post_at f u))) (λ same. other (ap (λ x. Some x) (sym same))) ∙ out

-- the owner waits: it hands the monitor on, and joins the wait set
pub IsSound-wait_outcome : (f : FatState) (t : ThreadId) (m : ℕ) (d : Option ℕ) → IsSound f → post_of f t ≡ Some Out → (monitor_at f m).owner ≡ Some t
    → IsSound (after_parking (after_hand_on f m (first_of f m Entry)) t (Waiting m (monitor_at f m).holds d) m WaitSet)
IsSound-wait_outcome f t m d sound out owned =
    let bound = owned_bound f m t owned in
    IsSound-waiting (after_hand_on f m (first_of f m Entry)) t m (monitor_at f m).holds d (IsSound-after_hand_on f m sound bound)
    (let same = length-after_hand_on f m (first_of f m Entry) in omega arith) (out-after_hand_on f t m sound out)
    (λ owns. first_other f t m Entry sound out (sym (owner-after_hand_on f m (first_of f m Entry) bound) ∙ owns)) (holds_owned f m t sound owned)
