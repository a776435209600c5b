-- Threads that leave a wait set behind an owner.
use Rattle.std.specs.Prelude.{◌≡◌, ◌≢◌, ◌⊎◌, ℕ, List, [], ◌∷◌, slice_index_or, Contains, Option, Some, None, IsSome}
use Rattle.std.specs.Option.{unwrap_or}
use Rattle.std.proofs.Common.{refl, sym, ap, ◌∙◌, subst, inl, inr}
use Rattle.lock_word.specs.declared.ThreadId.{ThreadId}
use Rattle.wait_lines.specs.declared.Role.TheVariants.{Entry, Waiting as WaitSet}
use Rattle.wait_lines.specs.Lines.{StandsIn, after_join, after_leave}
use Rattle.wait_lines.proofs.ThreadLemmas.{Contains-cons_first, Contains-cons_later}
use Rattle.fat_monitor.specs.declared.actions.Post.{Post}
use Rattle.fat_monitor.specs.declared.actions.Post.TheVariants.{Out, Entering, Waiting, Back, Granted}
use Rattle.fat_monitor.specs.declared.actions.Why.{Why}
use Rattle.fat_monitor.specs.declared.actions.Why.TheVariants as why
use Rattle.fat_monitor.specs.declared.monitors.Monitor.{Monitor}
use Rattle.fat_monitor.specs.FatState.{FatState, IsSound, monitor_at, unbound, post_of, post_at, line_of, with_post, with_lines}
use Rattle.fat_monitor.specs.Acting.{after_removal, after_sending_back, after_removals}
use Rattle.fat_monitor.proofs.SoundSteps.{written_cases}

-- u, which has this post, leaves its wait set for this reason, and joins the end of the entry line
abbrev pub queued : FatState → ThreadId → Why → Post → FatState
queued f u w (Waiting m n d) = with_lines (with_post f u (Back m n w)) (after_join (after_leave f.standing.lines u m WaitSet) u m Entry)
queued f u w Out = f
queued f u w (Entering m) = f
queued f u w (Back m n x) = f
queued f u w (Granted r) = f

-- each of these threads does, one after another
abbrev pub all_queued : FatState → List ThreadId → FatState
all_queued f [] = f
all_queued f (u ∷ us) = all_queued (queued f u why.Notified (post_at f u)) us

-- where u waits, it waits for a monitor that has an owner
abbrev pub IsOwnedOver : FatState → ThreadId → Type 0
IsOwnedOver f u = (m n : ℕ) (d : Option ℕ) → post_of f u ≡ Some (Waiting m n d) → IsSome (monitor_at f m).owner

after_sending_back-owned : (f : FatState) (u : ThreadId) (m : ℕ) (p : Post) (o : Option ThreadId) → IsSome o
    → after_sending_back f u m p o ≡ with_lines (with_post f u p) (after_join (after_leave f.standing.lines u m WaitSet) u m Entry)
after_sending_back-owned f u m p None h = absurd (cc)
after_sending_back-owned f u m p (Some v) h = refl

-- behind an owner a thread that is removed joins the entry line
after_removal-queued_by : (f : FatState) (u : ThreadId) (w : Why) (o : Option Post) → post_of f u ≡ o → IsOwnedOver f u → after_removal f u w (unwrap_or o Out) ≡ queued f u w (unwrap_or o Out)
after_removal-queued_by f u w None here owned = refl
after_removal-queued_by f u w (Some Out) here owned = refl
after_removal-queued_by f u w (Some (Entering m)) here owned = refl
after_removal-queued_by f u w (Some (Waiting m n d)) here owned = after_sending_back-owned f u m (Back m n w) (monitor_at f m).owner (owned m n d here)
after_removal-queued_by f u w (Some (Back m n x)) here owned = refl
after_removal-queued_by f u w (Some (Granted r)) here owned = refl

pub after_removal-queued : (f : FatState) (u : ThreadId) (w : Why) → IsOwnedOver f u → after_removal f u w (post_at f u) ≡ queued f u w (post_at f u)
after_removal-queued f u w owned = after_removal-queued_by f u w (post_of f u) refl owned

-- that changes no monitor
pub monitors-queued : (f : FatState) (u : ThreadId) (w : Why) (p : Post) → (queued f u w p).monitors ≡ f.monitors
monitors-queued f u w Out = refl
monitors-queued f u w (Entering m) = refl
monitors-queued f u w (Waiting m n d) = refl
monitors-queued f u w (Back m n x) = refl
monitors-queued f u w (Granted r) = refl

pub monitors-all_queued : (f : FatState) (us : List ThreadId) → (all_queued f us).monitors ≡ f.monitors
monitors-all_queued f [] = refl
monitors-all_queued f (u ∷ us) = monitors-all_queued (queued f u why.Notified (post_at f u)) us ∙ monitors-queued f u why.Notified (post_at f u)

-- whoever waits then waited before
waited_before : (f : FatState) (u v : ThreadId) (w : Why) (p : Post) (k n : ℕ) (d : Option ℕ) → post_of (queued f u w p) v ≡ Some (Waiting k n d) → post_of f v ≡ Some (Waiting k n d)
waited_before f u v w Out k n d e = e
waited_before f u v w (Entering m) k n d e = e
waited_before f u v w (Waiting m x y) k n d e = at (written_cases f.threads u v (Back m x w) (Waiting k n d) e)
  where
    at : ((v ≡ u) × (Back m x w ≡ Waiting k n d)) ⊎ ((v ≢ u) × (post_of f v ≡ Some (Waiting k n d))) → post_of f v ≡ Some (Waiting k n d)
    at (inl new) = let never = new.1 in absurd (cc)
    at (inr old) = old.1
waited_before f u v w (Back m x y) k n d e = e
waited_before f u v w (Granted r) k n d e = e

-- so the others still wait behind owners
IsOwnedOver-queued : (f : FatState) (u v : ThreadId) (w : Why) (p : Post) → IsOwnedOver f v → IsOwnedOver (queued f u w p) v
IsOwnedOver-queued f u v w p owned m n d here =
    subst (λ (monitors : List Monitor). IsSome (slice_index_or monitors m unbound).owner) (sym (monitors-queued f u w p)) (owned m n d (waited_before f u v w p m n d here))

-- behind owners all threads that are removed join entry lines
pub after_removals-queued : (f : FatState) (us : List ThreadId) → ((u : ThreadId) → Contains us u → IsOwnedOver f u) → after_removals f us ≡ all_queued f us
after_removals-queued f [] owned = refl
after_removals-queued f (u ∷ us) owned =
    ap (λ (g : FatState). after_removals g us) (after_removal-queued f u why.Notified (owned u (Contains-cons_first u us u refl)))
    ∙ after_removals-queued (queued f u why.Notified (post_at f u)) us (λ v has. IsOwnedOver-queued f u v why.Notified (post_at f u) (owned v (Contains-cons_later u us v has)))

-- a thread that stands in a wait set waits for its monitor
pub waits_there : (f : FatState) (u : ThreadId) (m : ℕ) → IsSound f → StandsIn f.standing.lines u m WaitSet → IsSome (monitor_at f m).owner → IsOwnedOver f u
waits_there f u m sound stands_in owned k n d here =
    let there = sound.posted u (Waiting k n d) k WaitSet here refl in
    subst (λ j. IsSome (monitor_at f j).owner) (sound.orderly.one_line u m k WaitSet WaitSet stands_in there).0 owned

-- so the wait set of a monitor with an owner joins its entry line
pub wait_set-queued : (f : FatState) (m : ℕ) → IsSound f → IsSome (monitor_at f m).owner → after_removals f (line_of f m WaitSet) ≡ all_queued f (line_of f m WaitSet)
wait_set-queued f m sound owned = after_removals-queued f (line_of f m WaitSet) (λ u has. waits_there f u m sound has owned)

-- a waiter behind an owner that is removed joins the entry line
pub after_removal-behind : (f : FatState) (u : ThreadId) (w : Why) (m n : ℕ) (d : Option ℕ) → post_of f u ≡ Some (Waiting m n d) → IsSome (monitor_at f m).owner
    → after_removal f u w (post_at f u) ≡ queued f u w (Waiting m n d)
after_removal-behind f u w m n d here owned =
    ap (λ (o : Option Post). after_removal f u w (unwrap_or o Out)) here ∙ after_sending_back-owned f u m (Back m n w) (monitor_at f m).owner owned
