-- What the parts of an action change of the kept places.
use Rattle.std.specs.Prelude.{◌≡◌, ◌⊎◌, ℕ, ◌+◌, ◌<◌, List, [], ◌∷◌, length, Option, Some, None, slice_index_or}
use Rattle.std.specs.Ordering.{nat_cmp}
use Rattle.std.specs.FinMap as map
use Rattle.std.proofs.Common.{refl, sym, ap, ◌∙◌, arith, subst, inl, inr}
use Rattle.std.proofs.lemmas.List.Sums.{sum_by-set, sum_by-append}
use Rattle.lock_word.specs.declared.ThreadId.{ThreadId}
use Rattle.lock_word.specs.declared.ObjectId.{ObjectId}
use Rattle.wait_lines.specs.declared.Role.{Role}
use Rattle.wait_lines.specs.declared.Role.TheVariants.{Entry}
use Rattle.fat_monitor.specs.declared.actions.Why.{Why}
use Rattle.fat_monitor.specs.declared.actions.Post.{Post}
use Rattle.fat_monitor.specs.declared.actions.Post.TheVariants.{Entering, Back, Granted}
use Rattle.fat_monitor.specs.declared.monitors.Monitor.{Monitor}
use Rattle.fat_monitor.specs.FatState.{FatState, IsSound, IsHeld, monitor_at, post_of, first_of, with_owner, with_post, bound_with, unbound}
use Rattle.fat_monitor.specs.Acting.{after_grant, after_hand_on, after_settling, holds_granted, reply_granted}
use Rattle.fat_monitor.proofs.Counts.{sum-insert, weight_in}
use Rattle.fat_monitor.proofs.LineEffects.{first_entering}
use Rattle.fat_monitor.proofs.SoundGrants.{after_settling-is}
use Rattle.live_book.specs.Places.{kept_by, kept_of}

-- another post of an attached thread
pub kept-with_post : (f : FatState) (t : ThreadId) (p q : Post) → post_of f t ≡ Some q → kept_of (with_post f t p) + kept_by q ≡ kept_of f + kept_by p
kept-with_post f t p q is =
    let inserted = sum-insert kept_by f.threads t.0 p in
    let found : weight_in kept_by (map.get f.threads t.0) ≡ kept_by q = ap (weight_in kept_by) is in
    omega arith

-- another owner, with other holds
pub kept-with_owner : (f : FatState) (m : ℕ) (o : Option ThreadId) (n : ℕ) → m < length f.monitors → kept_of (with_owner f m o n) + (monitor_at f m).holds ≡ kept_of f + n
kept-with_owner f m o n lt =
    let set = sum_by-set (λ (b : Monitor). b.holds) f.monitors m (record (monitor_at f m) { owner = o; holds = n }) unbound lt in
    omega arith

-- one monitor more
pub kept-bound_with : (f : FatState) (o : ObjectId) (t : ThreadId) (n : ℕ) → kept_of (bound_with f o t n) ≡ kept_of f + n
kept-bound_with f o t n = let more = sum_by-append (λ (b : Monitor). b.holds) f.monitors ((record { object = o; owner = Some t; holds = n }) ∷ []) in omega arith

-- u, which had the post q, is granted m as one with the post p
pub kept-after_grant : (f : FatState) (m : ℕ) (u : ThreadId) (p q : Post) (r : Role) → m < length f.monitors → post_of f u ≡ Some q
    → kept_of (after_grant f m u p r) + kept_by q + (monitor_at f m).holds ≡ kept_of f + holds_granted p + 1
kept-after_grant f m u p q r lt is =
    let g : FatState = after_settling f u p in
    let monitors : g.monitors ≡ f.monitors = ap (λ (h : FatState). h.monitors) (after_settling-is f u p) in
    let threads : g.threads ≡ f.threads = ap (λ (h : FatState). h.threads) (after_settling-is f u p) in
    let held : (monitor_at g m).holds ≡ (monitor_at f m).holds = ap (λ (ms : List Monitor). (slice_index_or ms m unbound).holds) monitors in
    let own = kept-with_owner g m (Some u) (holds_granted p) (subst (λ (ms : List Monitor). m < length ms) (sym monitors) lt) in
    let post = kept-with_post (with_owner g m (Some u) (holds_granted p)) u (Granted (reply_granted p)) q (ap (λ (ts : map.FinMap nat_cmp Post). map.get ts u.0) threads ∙ is) in
    let kept : kept_of g ≡ kept_of f = ap kept_of (after_settling-is f u p) in
    omega arith

-- the owner gives m up: its holds are no longer kept, and whoever is granted m keeps as many places as before
pub kept-after_hand_on : (f : FatState) (m : ℕ) → IsSound f → m < length f.monitors → kept_of (after_hand_on f m (first_of f m Entry)) + (monitor_at f m).holds ≡ kept_of f
kept-after_hand_on f m sound lt = by_first (first_of f m Entry) refl
  where
    by_first : (o : Option ThreadId) → first_of f m Entry ≡ o → kept_of (after_hand_on f m o) + (monitor_at f m).holds ≡ kept_of f
    by_first None e = let none = kept-with_owner f m None 0 lt in omega arith
    by_first (Some u) e = by_post (first_entering f m u sound e)
      where
        by_post : (post_of f u ≡ Some (Entering m)) ⊎ ((n : ℕ) × (w : Why) × (post_of f u ≡ Some (Back m n w)) × IsHeld n) → kept_of (after_hand_on f m (Some u)) + (monitor_at f m).holds ≡ kept_of f
        by_post (inl is) = rw is (let k = kept-after_grant f m u (Entering m) (Entering m) Entry lt is in omega arith)
        by_post (inr x) = rw x.2 (let k = kept-after_grant f m u (Back m x.0 x.1) (Back m x.0 x.1) Entry lt x.2 in omega arith)
