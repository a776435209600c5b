-- Who stands first in a line, and what a notifyAll makes of posts.
use Rattle.std.specs.Prelude.{◌≡◌, ◌≢◌, ◌⊎◌, ℕ, ◌==◌, if◌then◌else◌, List, [], ◌∷◌, slice_get, Contains, Option, Some, None, IsSome}
use Rattle.std.specs.Option.{option_map, unwrap_or}
use Rattle.std.proofs.Common.{refl, sym, ap, ◌∙◌, inl, inr}
use Rattle.std.proofs.lemmas.Bool.{cases_eq, eq-eqb, ne_eqb, cond-true, cond-false}
use Rattle.std.proofs.lemmas.Option.{same_Some}
use Rattle.lock_word.specs.declared.ThreadId.{ThreadId}
use Rattle.wait_lines.specs.declared.Role.TheVariants.{Entry, Waiting as WaitSet}
use Rattle.wait_lines.specs.Lines.{Key, key}
use Rattle.wait_lines.proofs.LineLemmas.{StandsIn-first}
use Rattle.wait_lines.proofs.ThreadLemmas.{same_thread, contains_none, cases_contains, Contains-cons_first, Contains-cons_later, Contains-cons_cases}
use Rattle.fat_monitor.specs.declared.actions.Post.{Post}
use Rattle.fat_monitor.specs.declared.actions.Post.TheVariants.{Out, Entering, Waiting, Back, Granted}
use Rattle.fat_monitor.specs.declared.actions.Why.{Why}
use Rattle.fat_monitor.specs.declared.actions.Why.TheVariants as why
use Rattle.fat_monitor.specs.FatState.{FatState, IsSound, IsProper, IsHeld, monitor_at, post_of, post_at, line_of, first_of, with_post, line_key_of}
use Rattle.fat_monitor.specs.Acting.{after_removals}
use Rattle.fat_monitor.proofs.PostMaps.{get-insert_by}
use Rattle.fat_monitor.proofs.WaitSets.{queued, all_queued, wait_set-queued}

-- the post of a thread after one was written
pub post-with_post_same : (f : FatState) (t : ThreadId) (p : Post) → post_of (with_post f t p) t ≡ Some p
post-with_post_same f t p = get-insert_by f.threads t.0 p t.0 ∙ cond-true (t.0 == t.0) _ _ (eq-eqb t.0 t.0 refl)

pub post-with_post_other : (f : FatState) (t u : ThreadId) (p : Post) → u ≢ t → post_of (with_post f t p) u ≡ post_of f u
post-with_post_other f t u p other = get-insert_by f.threads t.0 p u.0 ∙ cond-false (u.0 == t.0) _ _ (ne_eqb u.0 t.0 (λ e. other (same_thread t u e)))

-- ---- lines

-- who is first in an entry line, and in a wait set
pub first_entering : (f : FatState) (m : ℕ) (u : ThreadId) → IsSound f → first_of f m Entry ≡ Some u → (post_of f u ≡ Some (Entering m)) ⊎ ((n : ℕ) × (w : Why) × (post_of f u ≡ Some (Back m n w)) × IsHeld n)
first_entering f m u sound first =
    let stood = sound.standing u m Entry (StandsIn-first f.standing.lines u m Entry first) in by_post stood.0 stood.1 stood.2 (sound.proper u stood.0 stood.1)
  where
    by_post : (p : Post) → post_of f u ≡ Some p → line_key_of p ≡ Some (key m Entry) → IsProper f p → (post_of f u ≡ Some (Entering m)) ⊎ ((n : ℕ) × (w : Why) × (post_of f u ≡ Some (Back m n w)) × IsHeld n)
    by_post Out e in_line proper = absurd (cc)
    by_post (Entering k) e in_line proper =
        let same : k ≡ m = ap (λ (j : Key). j.0) (same_Some (key k Entry) (key m Entry) in_line) in inl (e ∙ ap (λ (j : ℕ). Some (Entering j)) same)
    by_post (Waiting k n d) e in_line proper =
        let same : WaitSet ≡ Entry = ap (λ (j : Key). j.1) (same_Some (key k WaitSet) (key m Entry) in_line) in absurd (cc)
    by_post (Back k n w) e in_line proper =
        let same : k ≡ m = ap (λ (j : Key). j.0) (same_Some (key k Entry) (key m Entry) in_line) in inr (n, w, e ∙ ap (λ (j : ℕ). Some (Back j n w)) same, proper.1)
    by_post (Granted r) e in_line proper = absurd (cc)

pub first_waiting : (f : FatState) (m : ℕ) (u : ThreadId) → IsSound f → first_of f m WaitSet ≡ Some u → (n : ℕ) × (d : Option ℕ) × (post_of f u ≡ Some (Waiting m n d)) × IsHeld n
first_waiting f m u sound first =
    let stood = sound.standing u m WaitSet (StandsIn-first f.standing.lines u m WaitSet first) in by_post stood.0 stood.1 stood.2 (sound.proper u stood.0 stood.1)
  where
    by_post : (p : Post) → post_of f u ≡ Some p → line_key_of p ≡ Some (key m WaitSet) → IsProper f p → (n : ℕ) × (d : Option ℕ) × (post_of f u ≡ Some (Waiting m n d)) × IsHeld n
    by_post Out e in_line proper = absurd (cc)
    by_post (Entering k) e in_line proper =
        let same : Entry ≡ WaitSet = ap (λ (j : Key). j.1) (same_Some (key k Entry) (key m WaitSet) in_line) in absurd (cc)
    by_post (Waiting k n d) e in_line proper =
        let same : k ≡ m = ap (λ (j : Key). j.0) (same_Some (key k WaitSet) (key m WaitSet) in_line) in (n, d, e ∙ ap (λ (j : ℕ). Some (Waiting j n d)) same, proper.1)
    by_post (Back k n w) e in_line proper =
        let same : Entry ≡ WaitSet = ap (λ (j : Key). j.1) (same_Some (key k Entry) (key m WaitSet) in_line) in absurd (cc)
    by_post (Granted r) e in_line proper = absurd (cc)

-- a list with no first thread has none
empty_line : (us : List ThreadId) (u : ThreadId) → slice_get us 0 ≡ None → Contains us u → ⊥
empty_line [] u none h = contains_none u h
empty_line (v ∷ us) u none h = cc

pub nobody_waiting : (f : FatState) (m : ℕ) → IsSound f → first_of f m WaitSet ≡ None → (u : ThreadId) (n : ℕ) (d : Option ℕ) → post_of f u ≢ Some (Waiting m n d)
nobody_waiting f m sound none u n d e = empty_line (line_of f m WaitSet) u none (sound.posted u (Waiting m n d) m WaitSet e refl)

-- what a notifyAll of m makes of a post
abbrev pub called_back : ℕ → Post → Post
called_back m Out = Out
called_back m (Entering k) = Entering k
called_back m (Waiting k n d) = if k == m then Back k n why.Notified else Waiting k n d
called_back m (Back k n w) = Back k n w
called_back m (Granted r) = Granted r

-- what leaving its wait set makes of a post, whichever wait set it is
abbrev called : Post → Post
called Out = Out
called (Entering k) = Entering k
called (Waiting k n d) = Back k n why.Notified
called (Back k n w) = Back k n w
called (Granted r) = Granted r

called_twice : (o : Option Post) → option_map called (option_map called o) ≡ option_map called o
called_twice None = refl
called_twice (Some Out) = refl
called_twice (Some (Entering k)) = refl
called_twice (Some (Waiting k n d)) = refl
called_twice (Some (Back k n w)) = refl
called_twice (Some (Granted r)) = refl

-- the post of the thread that leaves, and of another one
post-queued_same : (f : FatState) (u : ThreadId) (o : Option Post) → post_of f u ≡ o → post_of (queued f u why.Notified (unwrap_or o Out)) u ≡ option_map called o
post-queued_same f u None e = e
post-queued_same f u (Some Out) e = e
post-queued_same f u (Some (Entering m)) e = e
post-queued_same f u (Some (Waiting m n d)) e = post-with_post_same f u (Back m n why.Notified)
post-queued_same f u (Some (Back m n w)) e = e
post-queued_same f u (Some (Granted r)) e = e

post-queued_other : (f : FatState) (u v : ThreadId) (p : Post) → v ≢ u → post_of (queued f u why.Notified p) v ≡ post_of f v
post-queued_other f u v Out other = refl
post-queued_other f u v (Entering m) other = refl
post-queued_other f u v (Waiting m n d) other = post-with_post_other f u v (Back m n why.Notified) other
post-queued_other f u v (Back m n w) other = refl
post-queued_other f u v (Granted r) other = refl

-- a thread that is not in the list keeps its post
post-unlisted : (f : FatState) (us : List ThreadId) (v : ThreadId) → (Contains us v → ⊥) → post_of (all_queued f us) v ≡ post_of f v
post-unlisted f [] v absent = refl
post-unlisted f (u ∷ us) v absent =
    post-unlisted (queued f u why.Notified (post_at f u)) us v (λ h. absent (Contains-cons_later u us v h))
    ∙ post-queued_other f u v (post_at f u) (λ e. absent (Contains-cons_first u us v (sym e)))

-- a thread of the list leaves its wait set, and only once, however often it is in the list
post-listed : (f : FatState) (us : List ThreadId) (v : ThreadId) → Contains us v → post_of (all_queued f us) v ≡ option_map called (post_of f v)
post-listed f [] v h = absurd (contains_none v h)
post-listed f (u ∷ us) v h = at (λ k. post-listed (queued f u why.Notified (post_at f u)) us v k) (cases_contains us v) (cases_eq v.0 u.0)
  where
    own : v.0 ≡ u.0 → post_of (queued f u why.Notified (post_at f u)) v ≡ option_map called (post_of f v)
    own e = rw (same_thread u v e) (post-queued_same f u (post_of f u) refl)

    later : (u ≡ v) ⊎ Contains us v → (v.0 ≡ u.0 → ⊥) → Contains us v
    later (inl same) other = absurd (other (ap (λ (x : ThreadId). x.0) (sym same)))
    later (inr rest) other = rest

    at : (Contains us v → post_of (all_queued (queued f u why.Notified (post_at f u)) us) v ≡ option_map called (post_of (queued f u why.Notified (post_at f u)) v))
        → Contains us v ⊎ (Contains us v → ⊥) → (v.0 ≡ u.0) ⊎ (v.0 ≡ u.0 → ⊥) → post_of (all_queued (queued f u why.Notified (post_at f u)) us) v ≡ option_map called (post_of f v)
    at again (inl rest) (inl same) = again rest ∙ ap (λ (o : Option Post). option_map called o) (own same) ∙ called_twice (post_of f v)
    at again (inr absent) (inl same) = post-unlisted (queued f u why.Notified (post_at f u)) us v absent ∙ own same
    at again rest (inr other) =
        again (later (Contains-cons_cases u us v h) other)
        ∙ ap (λ (o : Option Post). option_map called o) (post-queued_other f u v (post_at f u) (λ e. other (ap (λ (x : ThreadId). x.0) e)))

-- a notifyAll of a monitor that has an owner calls back exactly those whose post is in its wait set
pub post-after_removals : (f : FatState) (m : ℕ) (u : ThreadId) → IsSound f → IsSome (monitor_at f m).owner → post_of (after_removals f (line_of f m WaitSet)) u ≡ option_map (called_back m) (post_of f u)
post-after_removals f m u sound owned = ap (λ (g : FatState). post_of g u) (wait_set-queued f m sound owned) ∙ at (cases_contains (line_of f m WaitSet) u)
  where
    here : (p : Post) → line_key_of p ≡ Some (key m WaitSet) → called p ≡ called_back m p
    here Out in_line = refl
    here (Entering k) in_line = refl
    here (Waiting k n d) in_line =
        let same : k ≡ m = ap (λ (j : Key). j.0) (same_Some (key k WaitSet) (key m WaitSet) in_line) in
        sym (cond-true (k == m) (Back k n why.Notified) (Waiting k n d) (eq-eqb k m same))
    here (Back k n w) in_line = refl
    here (Granted r) in_line = refl

    elsewhere : (Contains (line_of f m WaitSet) u → ⊥) → (o : Option Post) → post_of f u ≡ o → o ≡ option_map (called_back m) o
    elsewhere absent None e = refl
    elsewhere absent (Some Out) e = refl
    elsewhere absent (Some (Entering k)) e = refl
    elsewhere absent (Some (Waiting k n d)) e =
        let other : k ≡ m → ⊥ = λ same. absent (sound.posted u (Waiting k n d) m WaitSet e (ap (λ (j : ℕ). Some (key j WaitSet)) same)) in
        sym (ap (λ (p : Post). Some p) (cond-false (k == m) (Back k n why.Notified) (Waiting k n d) (ne_eqb k m other)))
    elsewhere absent (Some (Back k n w)) e = refl
    elsewhere absent (Some (Granted r)) e = refl

    at : Contains (line_of f m WaitSet) u ⊎ (Contains (line_of f m WaitSet) u → ⊥) → post_of (all_queued f (line_of f m WaitSet)) u ≡ option_map (called_back m) (post_of f u)
    at (inl waits) =
        let stood = sound.standing u m WaitSet waits in
        post-listed f (line_of f m WaitSet) u waits ∙ rw stood.1 (ap (λ (p : Post). Some p) (here stood.0 stood.2))
    at (inr absent) = post-unlisted f (line_of f m WaitSet) u absent ∙ elsewhere absent (post_of f u) refl
