-- What every change of a fat state is made of: a thread joins a line, leaves one, or changes its post outside of lines; or a monitor changes its owner.
use Rattle.std.specs.Prelude.{◌≡◌, ◌≢◌, ◌⊎◌, ◌↔◌, ℕ, ◌+◌, ◌<◌, ◌≤◌, Bool, true, false, cond, length, set, Option, Some, None, IsSome}
use Rattle.std.specs.Ordering.{nat_cmp}
use Rattle.std.specs.FinMap as map
use Rattle.std.proofs.Common.{refl, sym, ap, ◌∙◌, subst, inl, inr, arith, length-set, get_or-set_same, get_or-set_other}
use Rattle.std.proofs.lemmas.Bool.{cases_eq, eq-eqb, ne_eqb}
use Rattle.std.proofs.lemmas.Option.{same_Some}
use Rattle.lock_word.specs.declared.ThreadId.{ThreadId}
use Rattle.wait_lines.specs.declared.Role.{Role}
use Rattle.wait_lines.specs.declared.Role.TheVariants.{Entry, Waiting as WaitSet}
use Rattle.wait_lines.specs.Lines.{Key, key, StandsIn, StandsNowhere, after_join, after_leave, total_count}
use Rattle.wait_lines.proofs.ThreadLemmas.{same_thread}
use Rattle.wait_lines.proofs.LineLemmas.{StandsIn-after_join, StandsIn-after_join_cases, StandsIn-after_join_before, StandsIn-after_leave_before, StandsIn-after_leave, StandsNowhere-after_leave, total_count-after_join, total_count-after_leave, IsOrderly-after_join, IsOrderly-after_leave}
use Rattle.fat_monitor.specs.declared.actions.Post.{Post}
use Rattle.fat_monitor.specs.declared.actions.Post.TheVariants.{Out, Entering, Waiting, Back, Granted}
use Rattle.fat_monitor.specs.declared.monitors.Monitor.{Monitor}
use Rattle.fat_monitor.specs.FatState.{FatState, IsSound, IsProper, IsFair, unbound, monitor_at, post_of, with_owner, with_post, with_lines, line_key_of, stands, stand_count}
use Rattle.fat_monitor.specs.Acting.{after_parking}
use Rattle.fat_monitor.proofs.PostMaps.{get-insert_by}
use Rattle.fat_monitor.proofs.Counts.{count-insert}
use Rattle.fat_monitor.proofs.SoundCounts.{stand_count-less, len-insert_same}

-- ---- posts

-- a thread is another or not
pub cases_thread : (t u : ThreadId) → (u ≡ t) ⊎ (u ≢ t)
cases_thread t u = at (cases_eq u.0 t.0)
  where
    at : (u.0 ≡ t.0) ⊎ (u.0 ≡ t.0 → ⊥) → (u ≡ t) ⊎ (u ≢ t)
    at (inl same) = inl (same_thread t u same)
    at (inr other) = inr (λ e. other (ap (λ (x : ThreadId). x.0) e))

-- the post of a thread after it was written
pub get-written : (threads : map.FinMap nat_cmp Post) (t : ThreadId) (p : Post) → map.get (map.insert threads t.0 p) t.0 ≡ Some p
get-written threads t p = rw (get-insert_by threads t.0 p t.0, eq-eqb t.0 t.0 refl) refl

-- the posts of the others stay
pub get-written_other : (threads : map.FinMap nat_cmp Post) (t u : ThreadId) (p : Post) → u ≢ t → map.get (map.insert threads t.0 p) u.0 ≡ map.get threads u.0
get-written_other threads t u p other = rw (get-insert_by threads t.0 p u.0, ne_eqb u.0 t.0 (λ e. other (same_thread t u e))) refl

-- a thread's post is the one that was written for it, or the one that it had
pub written_cases : (threads : map.FinMap nat_cmp Post) (t u : ThreadId) (p q : Post) → map.get (map.insert threads t.0 p) u.0 ≡ Some q
    → ((u ≡ t) × (p ≡ q)) ⊎ ((u ≢ t) × (map.get threads u.0 ≡ Some q))
written_cases threads t u p q e = at (cases_thread t u)
  where
    at : (u ≡ t) ⊎ (u ≢ t) → ((u ≡ t) × (p ≡ q)) ⊎ ((u ≢ t) × (map.get threads u.0 ≡ Some q))
    at (inl same) = inl (same, same_Some p q (sym (get-written threads t p) ∙ ap (λ (x : ThreadId). map.get (map.insert threads t.0 p) x.0) (sym same) ∙ e))
    at (inr other) = inr (other, sym (get-written_other threads t u p other) ∙ e)

-- who has a line key stands in a line
pub stands-line_key : (p : Post) (k : Key) → line_key_of p ≡ Some k → stands p ≡ true
stands-line_key Out k e = absurd (cc)
stands-line_key (Entering m) k e = refl
stands-line_key (Waiting m n d) k e = refl
stands-line_key (Back m n w) k e = refl
stands-line_key (Granted r) k e = absurd (cc)

-- who has no line key stands in no line
pub stands-no_line_key : (p : Post) → line_key_of p ≡ None → stands p ≡ false
stands-no_line_key Out e = refl
stands-no_line_key (Entering m) e = absurd (cc)
stands-no_line_key (Waiting m n d) e = absurd (cc)
stands-no_line_key (Back m n w) e = absurd (cc)
stands-no_line_key (Granted r) e = refl

-- two posts of one thread are one
pub one_post : (o : Option Post) (p q : Post) → o ≡ Some p → o ≡ Some q → p ≡ q
one_post o p q e f = same_Some p q (sym e ∙ f)

-- a post has one line key
pub one_line_key : (p q : Post) (k j : Key) → p ≡ q → line_key_of p ≡ Some k → line_key_of q ≡ Some j → k ≡ j
one_line_key p q k j same e f = same_Some k j (sym e ∙ ap line_key_of same ∙ f)

-- a post has not both a line key and none
pub no_line_key : (p q : Post) (k : Key) → p ≡ q → line_key_of p ≡ None → line_key_of q ≡ Some k → ⊥
no_line_key p q k same e f = let h : None ≡ Some k = sym e ∙ ap line_key_of same ∙ f in cc

-- a proper post is proper where at least as many monitors are bound
pub IsProper-kept : (f g : FatState) (p : Post) → length f.monitors ≤ length g.monitors → IsProper f p → IsProper g p
IsProper-kept f g Out more proper = tt
IsProper-kept f g (Entering m) more proper = omega arith
IsProper-kept f g (Waiting m n d) more proper = let h = proper.0 in (omega arith, proper.1)
IsProper-kept f g (Back m n w) more proper = let h = proper.0 in (omega arith, proper.1)
IsProper-kept f g (Granted r) more proper = proper

-- a proper post names a bound monitor
pub line_key_bound : (f : FatState) (p : Post) (m : ℕ) (r : Role) → IsProper f p → line_key_of p ≡ Some (key m r) → m < length f.monitors
line_key_bound f Out m r proper e = absurd (cc)
line_key_bound f (Entering k) m r proper e = let same : k ≡ m = ap (λ (j : Key). j.0) (same_Some (key k Entry) (key m r) e) in omega arith
line_key_bound f (Waiting k n d) m r proper e = let h = proper.0 in let same : k ≡ m = ap (λ (j : Key). j.0) (same_Some (key k WaitSet) (key m r) e) in omega arith
line_key_bound f (Back k n w) m r proper e = let h = proper.0 in let same : k ≡ m = ap (λ (j : Key). j.0) (same_Some (key k Entry) (key m r) e) in omega arith
line_key_bound f (Granted x) m r proper e = absurd (cc)

-- ---- who stands where

-- a thread stands in lines of bound monitors
pub standing_bound : (f : FatState) (t : ThreadId) (m : ℕ) (r : Role) → IsSound f → StandsIn f.standing.lines t m r → m < length f.monitors
standing_bound f t m r sound stands_in =
    let post = sound.standing t m r stands_in in line_key_bound f post.0 m r (sound.proper t post.0 post.1) post.2

-- a thread whose post has no line key stands nowhere
pub nowhere : (f : FatState) (t : ThreadId) (p : Post) → IsSound f → post_of f t ≡ Some p → line_key_of p ≡ None → StandsNowhere f.standing.lines t
nowhere f t p sound here none m r stands_in =
    let post = sound.standing t m r stands_in in no_line_key p post.0 (key m r) (one_post (post_of f t) p post.0 here post.1) none post.2

-- and so there is room for it
pub room_for_one : (f : FatState) (t : ThreadId) (p : Post) → IsSound f → post_of f t ≡ Some p → line_key_of p ≡ None → total_count f.standing.lines < f.standing.reservations
room_for_one f t p sound here none =
    let less = stand_count-less f.threads t.0 p here (stands-no_line_key p none) in let counted = sound.counted in let room = sound.room in omega arith

-- ---- steps

-- interrupt flags, the moment, and the room for binds to come are free of all that fat states keep
IsSound-beside : (f : FatState) (flags : map.FinMap nat_cmp Bool) (moment spare : ℕ) → IsSound f → IsSound (record f { flags = flags; moment = moment; spare = spare })
IsSound-beside f flags moment spare sound = record {
  few = sound.few;
  limit = sound.limit;
  fair = sound.fair;
  proper = λ t p e. IsProper-kept f (record f { flags = flags; moment = moment; spare = spare }) p (omega arith) (sound.proper t p e);
  posted = sound.posted;
  standing = sound.standing;
  behind = sound.behind;
  apart = sound.apart;
  room = sound.room;
  counted = sound.counted;
  orderly = sound.orderly;
}

pub IsSound-flags : (f : FatState) (flags : map.FinMap nat_cmp Bool) → IsSound f → IsSound (record f { flags = flags })
IsSound-flags f flags sound = IsSound-beside f flags f.moment f.spare sound

pub IsSound-moment : (f : FatState) (moment : ℕ) → IsSound f → IsSound (record f { moment = moment })
IsSound-moment f moment sound = IsSound-beside f f.flags moment f.spare sound

pub IsSound-spare : (f : FatState) (spare : ℕ) → IsSound f → IsSound (record f { spare = spare })
IsSound-spare f spare sound = IsSound-beside f f.flags f.moment spare sound

-- every post is proper after a proper one was written
pub proper_after : (f g : FatState) (t : ThreadId) (q : Post) → IsSound f → length f.monitors ≤ length g.monitors → g.threads ≡ map.insert f.threads t.0 q → IsProper f q
    → (u : ThreadId) (p : Post) → post_of g u ≡ Some p → IsProper g p
proper_after f g t q sound more same proper u p e = at (written_cases f.threads t u q p (ap (λ (x : map.FinMap nat_cmp Post). map.get x u.0) (sym same) ∙ e))
  where
    at : ((u ≡ t) × (q ≡ p)) ⊎ ((u ≢ t) × (map.get f.threads u.0 ≡ Some p)) → IsProper g p
    at (inl new) = IsProper-kept f g p more (subst (λ x. IsProper f x) new.1 proper)
    at (inr old) = IsProper-kept f g p more (sound.proper u p old.1)

-- how many threads stand in lines after a post was written
standing_after : (f : FatState) (t : ThreadId) (p q : Post) (a b : Bool) → post_of f t ≡ Some p → stands p ≡ a → stands q ≡ b
    → stand_count (map.insert f.threads t.0 q) + cond a 1 0 ≡ stand_count f.threads + cond b 1 0
standing_after f t p q a b here was is = rw (here, was, is) at (count-insert stands f.threads t.0 q)

-- a thread outside of lines changes its post, and stays outside
pub IsSound-with_post : (f : FatState) (t : ThreadId) (p q : Post) → IsSound f → post_of f t ≡ Some p → line_key_of p ≡ None → IsProper f q → line_key_of q ≡ None
    → IsSound (with_post f t q)
IsSound-with_post f t p q sound here none proper none_after = record {
  few = sound.few;
  limit = sound.limit;
  fair = sound.fair;
  proper = proper_after f (with_post f t q) t q sound (omega arith) refl proper;
  posted = λ u x m r e in_line. posted u x m r in_line (written_cases f.threads t u q x e);
  standing = λ u m r stands_in.
      let post = sound.standing u m r stands_in in
      (post.0, get-written_other f.threads t u q (another u m r stands_in) ∙ post.1, post.2);
  behind = sound.behind;
  apart = sound.apart;
  room = let same = len-insert_same f.threads t.0 p q here in let room = sound.room in omega arith;
  counted =
      let standing = standing_after f t p q false false here (stands-no_line_key p none) (stands-no_line_key q none_after) in let counted = sound.counted in omega arith;
  orderly = sound.orderly;
}
  where
    another : (u : ThreadId) (m : ℕ) (r : Role) → StandsIn f.standing.lines u m r → u ≢ t
    another u m r stands_in same = nowhere f t p sound here none m r (subst (λ x. StandsIn f.standing.lines x m r) same stands_in)

    posted : (u : ThreadId) (x : Post) (m : ℕ) (r : Role) → line_key_of x ≡ Some (key m r) → ((u ≡ t) × (q ≡ x)) ⊎ ((u ≢ t) × (post_of f u ≡ Some x))
        → StandsIn f.standing.lines u m r
    posted u x m r in_line (inl new) = absurd (no_line_key q x (key m r) new.1 none_after in_line)
    posted u x m r in_line (inr old) = sound.posted u x m r old.1 in_line

-- a thread leaves its line
pub IsSound-after_leave : (f : FatState) (t : ThreadId) (p q : Post) (m : ℕ) (r : Role) → IsSound f → post_of f t ≡ Some p → line_key_of p ≡ Some (key m r) → IsProper f q → line_key_of q ≡ None
    → IsSound (with_lines (with_post f t q) (after_leave f.standing.lines t m r))
IsSound-after_leave f t p q m r sound here in_line proper none_after = record {
  few = sound.few;
  limit = sound.limit;
  fair = sound.fair;
  proper = proper_after f (with_lines (with_post f t q) (after_leave f.standing.lines t m r)) t q sound (omega arith) refl proper;
  posted = λ u x n s e at. posted u x n s at (written_cases f.threads t u q x e);
  standing = λ u n s stands_in.
      let post = sound.standing u n s (before u n s stands_in) in
      (post.0, get-written_other f.threads t u q (another u n s stands_in) ∙ post.1, post.2);
  behind = λ u n stands_in. sound.behind u n (before u n Entry stands_in);
  apart = λ u n s stands_in. sound.apart u n s (before u n s stands_in);
  room = let same = len-insert_same f.threads t.0 p q here in let room = sound.room in omega arith;
  counted =
      let standing = standing_after f t p q true false here (stands-line_key p (key m r) in_line) (stands-no_line_key q none_after) in
      let lines = total_count-after_leave f.standing t m r sound.orderly stood in
      let counted = sound.counted in
      omega arith;
  orderly = IsOrderly-after_leave f.standing t m r sound.orderly;
}
  where
    stood : StandsIn f.standing.lines t m r
    stood = sound.posted t p m r here in_line

    before : (u : ThreadId) (n : ℕ) (s : Role) → StandsIn (after_leave f.standing.lines t m r) u n s → StandsIn f.standing.lines u n s
    before u n s stands_in = StandsIn-after_leave_before f.standing.lines t u m n r s stands_in

    another : (u : ThreadId) (n : ℕ) (s : Role) → StandsIn (after_leave f.standing.lines t m r) u n s → u ≢ t
    another u n s stands_in same =
        StandsNowhere-after_leave f.standing t m r sound.orderly stood n s (subst (λ x. StandsIn (after_leave f.standing.lines t m r) x n s) same stands_in)

    posted : (u : ThreadId) (x : Post) (n : ℕ) (s : Role) → line_key_of x ≡ Some (key n s) → ((u ≡ t) × (q ≡ x)) ⊎ ((u ≢ t) × (post_of f u ≡ Some x))
        → StandsIn (after_leave f.standing.lines t m r) u n s
    posted u x n s at (inl new) = absurd (no_line_key q x (key n s) new.1 none_after at)
    posted u x n s at (inr old) = StandsIn-after_leave f.standing.lines t u m n r s old.0 (sound.posted u x n s old.1 at)

-- a thread outside of lines joins one: an entry line only behind an owner, and none of its own monitor
pub IsSound-after_parking : (f : FatState) (t : ThreadId) (p q : Post) (m : ℕ) (r : Role) → IsSound f → post_of f t ≡ Some p → line_key_of p ≡ None → IsProper f q → line_key_of q ≡ Some (key m r)
    → (r ≡ Entry → IsSome (monitor_at f m).owner) → (monitor_at f m).owner ≢ Some t → IsSound (after_parking f t q m r)
IsSound-after_parking f t p q m r sound here none proper in_line owned other = record {
  few = sound.few;
  limit = sound.limit;
  fair = sound.fair;
  proper = proper_after f (after_parking f t q m r) t q sound (omega arith) refl proper;
  posted = λ u x n s e at. posted u x n s at (written_cases f.threads t u q x e);
  standing = λ u n s stands_in. standing u n s (cases u n s stands_in);
  behind = λ u n stands_in. behind u n (cases u n Entry stands_in);
  apart = λ u n s stands_in. apart u n s (cases u n s stands_in);
  room = let same = len-insert_same f.threads t.0 p q here in let room = sound.room in omega arith;
  counted =
      let standing = standing_after f t p q false true here (stands-no_line_key p none) (stands-line_key q (key m r) in_line) in
      let lines = total_count-after_join f.standing.lines t m r in
      let counted = sound.counted in
      omega arith;
  orderly = IsOrderly-after_join f.standing t m r sound.orderly (nowhere f t p sound here none) (room_for_one f t p sound here none);
}
  where
    cases : (u : ThreadId) (n : ℕ) (s : Role) → StandsIn (after_join f.standing.lines t m r) u n s → StandsIn f.standing.lines u n s ⊎ ((t ≡ u) × (key n s ≡ key m r))
    cases u n s stands_in = StandsIn-after_join_cases f.standing.lines t u m n r s stands_in

    another : (u : ThreadId) (n : ℕ) (s : Role) → StandsIn f.standing.lines u n s → u ≢ t
    another u n s stands_in same = nowhere f t p sound here none n s (subst (λ x. StandsIn f.standing.lines x n s) same stands_in)

    posted : (u : ThreadId) (x : Post) (n : ℕ) (s : Role) → line_key_of x ≡ Some (key n s) → ((u ≡ t) × (q ≡ x)) ⊎ ((u ≢ t) × (post_of f u ≡ Some x))
        → StandsIn (after_join f.standing.lines t m r) u n s
    posted u x n s at (inl new) =
        let here_too : key m r ≡ key n s = one_line_key q x (key m r) (key n s) new.1 in_line at in
        let joins : StandsIn (after_join f.standing.lines t m r) t n s = subst (λ (k : Key). StandsIn (after_join f.standing.lines t m r) t k.0 k.1) here_too (StandsIn-after_join f.standing.lines t m r) in
        subst (λ v. StandsIn (after_join f.standing.lines t m r) v n s) (sym new.0) joins
    posted u x n s at (inr old) = StandsIn-after_join_before f.standing.lines t u m n r s (sound.posted u x n s old.1 at)

    standing : (u : ThreadId) (n : ℕ) (s : Role) → StandsIn f.standing.lines u n s ⊎ ((t ≡ u) × (key n s ≡ key m r))
        → (x : Post) × (map.get (map.insert f.threads t.0 q) u.0 ≡ Some x) × (line_key_of x ≡ Some (key n s))
    standing u n s (inl before) =
        let post = sound.standing u n s before in (post.0, get-written_other f.threads t u q (another u n s before) ∙ post.1, post.2)
    standing u n s (inr new) =
        (q, ap (λ (x : ThreadId). map.get (map.insert f.threads t.0 q) x.0) (sym new.0) ∙ get-written f.threads t q, in_line ∙ ap (λ k. Some k) (sym new.1))

    behind : (u : ThreadId) (n : ℕ) → StandsIn f.standing.lines u n Entry ⊎ ((t ≡ u) × (key n Entry ≡ key m r)) → IsSome (monitor_at f n).owner
    behind u n (inl before) = sound.behind u n before
    behind u n (inr new) = subst (λ k. IsSome (monitor_at f k).owner) (ap (λ (k : Key). k.0) (sym new.1)) (owned (ap (λ (k : Key). k.1) (sym new.1)))

    apart : (u : ThreadId) (n : ℕ) (s : Role) → StandsIn f.standing.lines u n s ⊎ ((t ≡ u) × (key n s ≡ key m r)) → (monitor_at f n).owner ≢ Some u
    apart u n s (inl before) = sound.apart u n s before
    apart u n s (inr new) = λ owns. other (ap (λ (k : Key). (monitor_at f k.0).owner) (sym new.1) ∙ owns ∙ ap (λ x. Some x) (sym new.0))

-- ---- owners

-- a monitor after a write of its owner and its holds
pub monitor-written : (f : FatState) (m : ℕ) (o : Option ThreadId) (n : ℕ) → m < length f.monitors → monitor_at (with_owner f m o n) m ≡ record (monitor_at f m) { owner = o; holds = n }
monitor-written f m o n bound = get_or-set_same f.monitors m (record (monitor_at f m) { owner = o; holds = n }) unbound bound

-- another monitor stays as it is
pub monitor-written_other : (f : FatState) (m k : ℕ) (o : Option ThreadId) (n : ℕ) → k ≢ m → monitor_at (with_owner f m o n) k ≡ monitor_at f k
monitor-written_other f m k o n other = get_or-set_other f.monitors m k (record (monitor_at f m) { owner = o; holds = n }) unbound other

-- a monitor changes its owner or its holds: whoever stands in its lines is not the owner, and is behind one in the entry line
pub IsSound-with_owner : (f : FatState) (m : ℕ) (o : Option ThreadId) (n : ℕ) → IsSound f → m < length f.monitors → n ≤ 65535 → (o ≡ None) ↔ (n ≡ 0)
    → ((u : ThreadId) → StandsIn f.standing.lines u m Entry → IsSome o) → ((u : ThreadId) (r : Role) → StandsIn f.standing.lines u m r → o ≢ Some u)
    → IsSound (with_owner f m o n)
IsSound-with_owner f m o n sound bound high held behind apart = record {
  few = let same = length-set f.monitors m after in let few = sound.few in omega arith;
  limit = sound.limit;
  fair = λ k h. fair_at k h (cases_eq k m);
  proper = λ u p e. IsProper-kept f (with_owner f m o n) p (let same = length-set f.monitors m after in omega arith) (sound.proper u p e);
  posted = sound.posted;
  standing = sound.standing;
  behind = λ u k stands_in. behind_at u k stands_in (cases_eq k m);
  apart = λ u k r stands_in. apart_at u k r stands_in (cases_eq k m);
  room = sound.room;
  counted = sound.counted;
  orderly = sound.orderly;
}
  where
    after : Monitor
    after = record (monitor_at f m) { owner = o; holds = n }

    written : (k : ℕ) → k ≡ m → monitor_at (with_owner f m o n) k ≡ after
    written k same = ap (λ j. monitor_at (with_owner f m o n) j) same ∙ monitor-written f m o n bound

    fair_at : (k : ℕ) → k < length (set f.monitors m after) → (k ≡ m) ⊎ (k ≡ m → ⊥) → IsFair (monitor_at (with_owner f m o n) k)
    fair_at k h (inl same) = subst (λ b. IsFair b) (sym (written k same)) (high, held)
    fair_at k h (inr other) =
        let same = length-set f.monitors m after in subst (λ b. IsFair b) (sym (monitor-written_other f m k o n other)) (sound.fair k (omega arith))

    behind_at : (u : ThreadId) (k : ℕ) → StandsIn f.standing.lines u k Entry → (k ≡ m) ⊎ (k ≡ m → ⊥) → IsSome (monitor_at (with_owner f m o n) k).owner
    behind_at u k stands_in (inl same) =
        subst (λ (b : Monitor). IsSome b.owner) (sym (written k same)) (behind u (subst (λ j. StandsIn f.standing.lines u j Entry) same stands_in))
    behind_at u k stands_in (inr other) = subst (λ (b : Monitor). IsSome b.owner) (sym (monitor-written_other f m k o n other)) (sound.behind u k stands_in)

    apart_at : (u : ThreadId) (k : ℕ) (r : Role) → StandsIn f.standing.lines u k r → (k ≡ m) ⊎ (k ≡ m → ⊥) → (monitor_at (with_owner f m o n) k).owner ≢ Some u
    apart_at u k r stands_in (inl same) owns =
        apart u r (subst (λ j. StandsIn f.standing.lines u j r) same stands_in) (ap (λ (b : Monitor). b.owner) (sym (written k same)) ∙ owns)
    apart_at u k r stands_in (inr other) owns = sound.apart u k r stands_in (ap (λ (b : Monitor). b.owner) (sym (monitor-written_other f m k o n other)) ∙ owns)
