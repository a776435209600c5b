-- What a thread that leaves its wait set changes of the kept places.
use Rattle.std.specs.Prelude.{◌≡◌, ℕ, ◌+◌, ◌<◌, List, [], ◌∷◌, length, Option, Some, None}
use Rattle.std.specs.Option.{unwrap_or}
use Rattle.std.specs.Ordering.{nat_cmp}
use Rattle.std.specs.FinMap as map
use Rattle.std.proofs.Common.{refl, ap, ◌∙◌, arith}
use Rattle.lock_word.specs.declared.ThreadId.{ThreadId}
use Rattle.wait_lines.specs.declared.Role.TheVariants.{Waiting as WaitSet}
use Rattle.fat_monitor.specs.declared.actions.Why.{Why}
use Rattle.fat_monitor.specs.declared.actions.Why.TheVariants as why
use Rattle.fat_monitor.specs.declared.actions.Post.{Post}
use Rattle.fat_monitor.specs.declared.actions.Post.TheVariants.{Out, Entering, Waiting, Back, Granted}
use Rattle.fat_monitor.specs.FatState.{FatState, IsSound, monitor_at, post_of, post_at, wait_count}
use Rattle.fat_monitor.specs.Acting.{after_removal, after_sending_back, after_settling, reply_granted, after_removals}
use Rattle.fat_monitor.proofs.SoundGrants.{after_settling-is}
use Rattle.fat_monitor.proofs.Soundness.{IsSound-after_removal}
use Rattle.fat_monitor.proofs.WaitCounts.{wait_count-insert}
use Rattle.live_book.specs.Places.{kept_of}
use Rattle.live_book.proofs.Weights.{kept-with_post, kept-after_grant}

-- so many threads left their wait sets, and as many places less are kept
abbrev pub Removes : FatState → FatState → ℕ → Type 0
Removes f g n = (kept_of g + n ≡ kept_of f) × (wait_count g.threads + n ≡ wait_count f.threads)

pub removes_none : (f : FatState) → Removes f f 0
removes_none f = (omega arith, omega arith)

removes_then : (f g h : FatState) (n k : ℕ) → Removes f g n → Removes g h k → Removes f h (n + k)
removes_then f g h n k a b = let x = a.0 in let y = a.1 in let u = b.0 in let v = b.1 in (omega arith, omega arith)

-- one that waits with n holds keeps 2 + n, and 1 + n once it is removed, whether it gets the monitor at once or not
after_sending_back-one : (f : FatState) (u : ThreadId) (w : Why) (m n : ℕ) (d : Option ℕ) (o : Option ThreadId) → IsSound f → m < length f.monitors → post_of f u ≡ Some (Waiting m n d)
    → (monitor_at f m).owner ≡ o → Removes f (after_sending_back f u m (Back m n w) o) 1
after_sending_back-one f u w m n d (Some t) sound lt is e =
    let kept = kept-with_post f u (Back m n w) (Waiting m n d) is in
    let waits = wait_count-insert f.threads u.0 (Waiting m n d) (Back m n w) is in
    (omega arith, omega arith)
after_sending_back-one f u w m n d None sound lt is e =
    let none : (monitor_at f m).holds ≡ 0 = (sound.fair m lt).1.0 e in
    let kept = kept-after_grant f m u (Back m n w) (Waiting m n d) WaitSet lt is in
    let g : FatState = after_settling f u (Back m n w) in
    let threads : g.threads ≡ f.threads = ap (λ (h : FatState). h.threads) (after_settling-is f u (Back m n w)) in
    let waits = wait_count-insert g.threads u.0 (Waiting m n d) (Granted (reply_granted (Back m n w))) (ap (λ (ts : map.FinMap nat_cmp Post). map.get ts u.0) threads ∙ is) in
    let same : wait_count g.threads ≡ wait_count f.threads = ap wait_count threads in
    (omega arith, omega arith)

pub after_removal-one : (f : FatState) (u : ThreadId) (w : Why) (m n : ℕ) (d : Option ℕ) → IsSound f → post_of f u ≡ Some (Waiting m n d) → Removes f (after_removal f u w (Waiting m n d)) 1
after_removal-one f u w m n d sound is = after_sending_back-one f u w m n d (monitor_at f m).owner sound (sound.proper u (Waiting m n d) is).0 is refl

-- one that does not wait is not removed
pub after_removal-some : (f : FatState) (u : ThreadId) (w : Why) (o : Option Post) → IsSound f → post_of f u ≡ o → (k : ℕ) × Removes f (after_removal f u w (unwrap_or o Out)) k
after_removal-some f u w None sound is = (0, removes_none f)
after_removal-some f u w (Some Out) sound is = (0, removes_none f)
after_removal-some f u w (Some (Entering m)) sound is = (0, removes_none f)
after_removal-some f u w (Some (Waiting m n d)) sound is = (1, after_removal-one f u w m n d sound is)
after_removal-some f u w (Some (Back m n x)) sound is = (0, removes_none f)
after_removal-some f u w (Some (Granted r)) sound is = (0, removes_none f)

pub after_removals-some : (f : FatState) (us : List ThreadId) → IsSound f → (k : ℕ) × Removes f (after_removals f us) k
after_removals-some f [] sound = (0, removes_none f)
after_removals-some f (u ∷ us) sound =
    let g : FatState = after_removal f u why.Notified (post_at f u) in
    let one = after_removal-some f u why.Notified (post_of f u) sound refl in
    let rest = after_removals-some g us (IsSound-after_removal f u why.Notified sound) in
    (one.0 + rest.0, removes_then f g (after_removals g us) one.0 rest.0 one.1 rest.1)
