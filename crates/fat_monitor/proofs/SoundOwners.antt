-- Fat states stay sound where threads come and go, and where monitors change their owners.
use Rattle.std.specs.Prelude.{◌≡◌, ◌≢◌, ◌⊎◌, ◌↔◌, ℕ, ◌+◌, ◌<◌, ◌≤◌, ◌==◌, Bool, true, false, if◌then◌else◌, nat_lt, List, [], ◌∷◌, ◌++◌, length, get_or, slice_get, Contains, Option, Some, None, IsSome}
use Rattle.std.specs.Option.{unwrap_or}
use Rattle.std.specs.Ordering.{nat_cmp}
use Rattle.std.specs.FinMap as map
use Rattle.std.specs.FinMap.{get-empty, len-empty}
use Rattle.std.proofs.Common.{refl, sym, ap, ◌∙◌, subst, inl, inr, arith, length-append}
use Rattle.std.proofs.lemmas.Bool.{cases_eq, eq-eqb, ne_eqb, ltb-true, ltb-false, eqb-true, eqb-false}
use Rattle.std.proofs.lemmas.List.{get_or_at, get_or_append_left, get_or_past}
use Rattle.std.proofs.lemmas.Option.{same_Some}
use Rattle.lock_word.specs.declared.ThreadId.{ThreadId}
use Rattle.lock_word.specs.declared.ObjectId.{ObjectId}
use Rattle.wait_lines.specs.declared.Role.{Role}
use Rattle.wait_lines.specs.declared.Role.TheVariants.{Entry, Waiting as WaitSet}
use Rattle.wait_lines.specs.Lines.{key, StandsIn, StandsNowhere, total_count, IsOrderly}
use Rattle.wait_lines.proofs.ThreadLemmas.{same_thread, contains_none}
use Rattle.wait_lines.proofs.LineLemmas.{line-empty, total_count-empty, IsOrderly-nobody, IsOrderly-reserved}
use Rattle.fat_monitor.specs.declared.actions.Post.{Post}
use Rattle.fat_monitor.specs.declared.actions.Post.TheVariants.{Out, Entering, Waiting, Granted}
use Rattle.fat_monitor.specs.declared.actions.Reply.{Reply}
use Rattle.fat_monitor.specs.declared.monitors.Monitor.{Monitor}
use Rattle.fat_monitor.specs.FatState.{FatState, IsSound, IsFair, IsHeld, unbound, opened, monitor_at, post_of, post_at, thread_count, line_of, first_of, with_owner, with_post, with_thread, without_thread, bound_with, line_key_of, stands, stand_count, StandBehindOwners}
use Rattle.fat_monitor.specs.Acting.{after_parking}
use Rattle.fat_monitor.proofs.PostMaps.{get-remove_by}
use Rattle.fat_monitor.proofs.Counts.{count-empty, count-insert, count-remove}
use Rattle.fat_monitor.proofs.SoundCounts.{len-insert_new, len-remove_le}
use Rattle.fat_monitor.proofs.SoundSteps.{get-written_other, written_cases, no_line_key, IsProper-kept, standing_bound, nowhere, room_for_one, proper_after, IsSound-with_post, IsSound-after_parking, IsSound-with_owner}

-- ---- facts of a sound state

-- a thread that is out stands nowhere
pub stands_nowhere : (f : FatState) (t : ThreadId) → IsSound f → post_of f t ≡ Some Out → StandsNowhere f.standing.lines t
stands_nowhere f t sound out = nowhere f t Out sound out refl

-- and there is room for it in the lines
pub room_to_join : (f : FatState) (t : ThreadId) → IsSound f → post_of f t ≡ Some Out → total_count f.standing.lines < f.standing.reservations
room_to_join f t sound out = room_for_one f t Out sound out refl

-- an owner that is there is named
pub some_owner : (o : Option ThreadId) → IsSome o → (u : ThreadId) × (o ≡ Some u)
some_owner None h = absurd (cc)
some_owner (Some u) h = (u, refl)

-- an owner that is named is there
pub is_some_owner : (o : Option ThreadId) (u : ThreadId) → o ≡ Some u → IsSome o
is_some_owner o u e = rw e refl

-- whoever stands in an entry line stands behind another thread
pub stand_behind : (f : FatState) → IsSound f → StandBehindOwners f
stand_behind f sound t m stands_in =
    let owner = some_owner (monitor_at f m).owner (sound.behind t m stands_in) in
    (owner.0, owner.1, λ same. sound.apart t m Entry stands_in (owner.1 ∙ ap (λ x. Some x) same))

-- nobody stands in a line that has no first thread
pub nobody_first : (f : FatState) (m : ℕ) (r : Role) (u : ThreadId) → first_of f m r ≡ None → StandsIn f.standing.lines u m r → ⊥
nobody_first f m r u e stands_in = at (line_of f m r) e stands_in
  where
    at : (ts : List ThreadId) → slice_get ts 0 ≡ None → Contains ts u → ⊥
    at [] e has = contains_none u has
    at (x ∷ xs) e has = let h : Some x ≡ None = e in cc

-- the post of a thread that has one
pub post_at-is : (f : FatState) (t : ThreadId) (p : Post) → post_of f t ≡ Some p → post_at f t ≡ p
post_at-is f t p e = ap (λ o. unwrap_or o Out) e

-- ---- no thread, a thread more, a thread less, a monitor more

-- where no thread is attached none has a post
not_posted : (t : ThreadId) (p : Post) → post_of (opened 0) t ≡ Some p → ⊥
not_posted t p e = let h : None ≡ Some p = sym (get-empty nat_cmp t.0) ∙ e in cc

-- in no lines nobody stands
nobody_stands : (t : ThreadId) (m : ℕ) (r : Role) → StandsIn map.empty t m r → ⊥
nobody_stands t m r stands_in = contains_none t (subst (λ l. Contains l t) (line-empty m r) stands_in)

-- with no monitor and no thread a fat state is sound
pub IsSound-opened : (limit : ℕ) → limit ≤ 8388608 → IsSound (opened limit)
IsSound-opened limit h = record {
  few = omega arith;
  limit = h;
  fair = λ m low. absurd (omega arith);
  proper = λ t p e. absurd (not_posted t p e);
  posted = λ t p m r e in_line. absurd (not_posted t p e);
  standing = λ t m r stands_in. absurd (nobody_stands t m r stands_in);
  behind = λ t m stands_in. absurd (nobody_stands t m Entry stands_in);
  apart = λ t m r stands_in. absurd (nobody_stands t m r stands_in);
  room = let none = len-empty nat_cmp Post in omega arith;
  counted = total_count-empty ∙ sym (count-empty stands);
  orderly = IsOrderly-nobody;
}

-- room for one thread more
room_enough : (threads reservations : ℕ) (b : Bool) → (threads == reservations) ≡ b → threads ≤ reservations → threads + 1 ≤ (if b then reservations + 1 else reservations)
room_enough threads reservations true e le = omega arith
room_enough threads reservations false e le = let other : threads ≡ reservations → ⊥ = eqb-false threads reservations e in omega arith

-- one more thread is attached
pub IsSound-with_thread : (f : FatState) (t : ThreadId) → IsSound f → post_of f t ≡ None → thread_count f < 32767 → IsSound (with_thread f t)
IsSound-with_thread f t sound fresh few = record {
  few = sound.few;
  limit = sound.limit;
  fair = sound.fair;
  proper = proper_after f (with_thread f t) t Out sound (omega arith) refl tt;
  posted = λ u p m r e in_line. posted u p m r in_line (written_cases f.threads t u Out p e);
  standing = λ u m r stands_in.
      let post = sound.standing u m r stands_in in (post.0, get-written_other f.threads t u Out (another u post.0 post.1) ∙ post.1, post.2);
  behind = sound.behind;
  apart = sound.apart;
  room = let more = len-insert_new f.threads t.0 Out fresh in let enough = room_enough (thread_count f) f.standing.reservations _ refl sound.room in omega arith;
  counted =
      let standing = count-insert stands f.threads t.0 Out in let none : stand_count (map.insert f.threads t.0 Out) + 0 ≡ stand_count f.threads + 0 = rw fresh at standing in
      let counted = sound.counted in
      omega arith;
  orderly = orderly (thread_count f == f.standing.reservations) refl;
}
  where
    another : (u : ThreadId) (p : Post) → post_of f u ≡ Some p → u ≢ t
    another u p e same = let h : None ≡ Some p = sym fresh ∙ ap (λ x. post_of f x) (sym same) ∙ e in cc

    posted : (u : ThreadId) (p : Post) (m : ℕ) (r : Role) → line_key_of p ≡ Some (key m r) → ((u ≡ t) × (Out ≡ p)) ⊎ ((u ≢ t) × (post_of f u ≡ Some p))
        → StandsIn f.standing.lines u m r
    posted u p m r in_line (inl new) = absurd (no_line_key Out p (key m r) new.1 refl in_line)
    posted u p m r in_line (inr old) = sound.posted u p m r old.1 in_line

    orderly : (b : Bool) → (thread_count f == f.standing.reservations) ≡ b
        → IsOrderly (record f.standing { reservations = if b then f.standing.reservations + 1 else f.standing.reservations })
    orderly true e = let same : thread_count f ≡ f.standing.reservations = eqb-true (thread_count f) f.standing.reservations e in IsOrderly-reserved f.standing sound.orderly (omega arith)
    orderly false e = sound.orderly

-- a thread that is out goes
pub IsSound-without_thread : (f : FatState) (t : ThreadId) → IsSound f → post_of f t ≡ Some Out → IsSound (without_thread f t)
IsSound-without_thread f t sound out = record {
  few = sound.few;
  limit = sound.limit;
  fair = sound.fair;
  proper = λ u p e. IsProper-kept f (without_thread f t) p (omega arith) (sound.proper u p (before u p e));
  posted = λ u p m r e in_line. sound.posted u p m r (before u p e) in_line;
  standing = λ u m r stands_in. let post = sound.standing u m r stands_in in (post.0, kept u (another u m r stands_in) ∙ post.1, post.2);
  behind = sound.behind;
  apart = sound.apart;
  room = let less = len-remove_le f.threads t.0 in let room = sound.room in omega arith;
  counted =
      let standing : stand_count (map.remove f.threads t.0) + 0 ≡ stand_count f.threads = count-remove stands f.threads t.0 Out out in let counted = sound.counted in omega arith;
  orderly = sound.orderly;
}
  where
    kept : (u : ThreadId) → u ≢ t → map.get (map.remove f.threads t.0) u.0 ≡ map.get f.threads u.0
    kept u other = rw (get-remove_by f.threads t.0 u.0, ne_eqb u.0 t.0 (λ e. other (same_thread t u e))) refl

    before : (u : ThreadId) (p : Post) → map.get (map.remove f.threads t.0) u.0 ≡ Some p → post_of f u ≡ Some p
    before u p e = at (cases_eq u.0 t.0)
      where
        at : (u.0 ≡ t.0) ⊎ (u.0 ≡ t.0 → ⊥) → post_of f u ≡ Some p
        at (inl same) = let gone : None ≡ Some p = rw (get-remove_by f.threads t.0 u.0, eq-eqb u.0 t.0 same) at e in absurd (cc)
        at (inr other) = sym (kept u (λ same. other (ap (λ (x : ThreadId). x.0) same))) ∙ e

    another : (u : ThreadId) (m : ℕ) (r : Role) → StandsIn f.standing.lines u m r → u ≢ t
    another u m r stands_in same = stands_nowhere f t sound out m r (subst (λ x. StandsIn f.standing.lines x m r) same stands_in)

-- one more monitor is bound, and has an owner
pub IsSound-bound_with : (f : FatState) (o : ObjectId) (t : ThreadId) (n : ℕ) → IsSound f → length f.monitors < f.limit → 1 ≤ n → n ≤ 65535 → IsSound (bound_with f o t n)
IsSound-bound_with f o t n sound room low high = record {
  few = let long = length-append f.monitors (new ∷ []) in omega arith;
  limit = sound.limit;
  fair = λ k h. fair_at k h (cases_eq k (length f.monitors));
  proper = λ u p e. IsProper-kept f (bound_with f o t n) p (let long = length-append f.monitors (new ∷ []) in omega arith) (sound.proper u p e);
  posted = sound.posted;
  standing = sound.standing;
  behind = λ u m stands_in. subst (λ (b : Monitor). IsSome b.owner) (sym (kept m (standing_bound f u m Entry sound stands_in))) (sound.behind u m stands_in);
  apart = λ u m r stands_in owns. sound.apart u m r stands_in (ap (λ (b : Monitor). b.owner) (sym (kept m (standing_bound f u m r sound stands_in))) ∙ owns);
  room = sound.room;
  counted = sound.counted;
  orderly = sound.orderly;
}
  where
    new : Monitor
    new = record { object = o; owner = Some t; holds = n }

    kept : (k : ℕ) → k < length f.monitors → monitor_at (bound_with f o t n) k ≡ monitor_at f k
    kept k h = get_or_append_left f.monitors (new ∷ []) unbound k h

    fair_at : (k : ℕ) → k < length (f.monitors ++ new ∷ []) → (k ≡ length f.monitors) ⊎ (k ≡ length f.monitors → ⊥) → IsFair (get_or (f.monitors ++ new ∷ []) k unbound)
    fair_at k h (inl e) = rw (e, get_or_at f.monitors new [] unbound (length f.monitors) refl) (high, ((λ e. cc), (λ e. absurd (omega arith))))
    fair_at k h (inr other) =
        let long = length-append f.monitors (new ∷ []) in let low : k < length f.monitors = omega arith in subst (λ b. IsFair b) (sym (kept k low)) (sound.fair k low)

-- ---- owners

-- a monitor with an owner is bound
pub owned_bound : (f : FatState) (m : ℕ) (u : ThreadId) → (monitor_at f m).owner ≡ Some u → m < length f.monitors
owned_bound f m u owned = at (nat_lt m (length f.monitors)) refl
  where
    at : (b : Bool) → nat_lt m (length f.monitors) ≡ b → m < length f.monitors
    at true e = ltb-true m (length f.monitors) e
    at false e = let past : length f.monitors ≤ m = ltb-false m (length f.monitors) e in
        let none : None ≡ Some u = rw (get_or_past f.monitors m unbound past) at owned in absurd (cc)

-- its owner holds it at least once
pub holds_owned : (f : FatState) (m : ℕ) (u : ThreadId) → IsSound f → (monitor_at f m).owner ≡ Some u → IsHeld (monitor_at f m).holds
holds_owned f m u sound owned =
    let fair = sound.fair m (owned_bound f m u owned) in (at (cases_eq (monitor_at f m).holds 0) fair.1.1, fair.0)
  where
    at : ((monitor_at f m).holds ≡ 0) ⊎ ((monitor_at f m).holds ≡ 0 → ⊥) → ((monitor_at f m).holds ≡ 0 → (monitor_at f m).owner ≡ None) → 1 ≤ (monitor_at f m).holds
    at (inl none) free = let never : None ≡ Some u = sym (free none) ∙ owned in absurd (cc)
    at (inr some) free = omega arith

-- a monitor that is held has an owner
pub owned_holds : (t : ThreadId) (n : ℕ) → 1 ≤ n → (Some t ≡ None) ↔ (n ≡ 0)
owned_holds t n low = ((λ e. absurd (cc)), (λ e. absurd (omega arith)))

-- a thread that is out takes a monitor that nobody owns
pub IsSound-taken : (f : FatState) (m : ℕ) (t : ThreadId) → IsSound f → m < length f.monitors → (monitor_at f m).owner ≡ None → post_of f t ≡ Some Out → IsSound (with_owner f m (Some t) 1)
IsSound-taken f m t sound bound free out =
    IsSound-with_owner f m (Some t) 1 sound bound (omega arith) (owned_holds t 1 (omega arith)) (λ u stands_in. refl)
    (λ u r stands_in owns. stands_nowhere f t sound out m r (subst (λ x. StandsIn f.standing.lines x m r) (sym (same_Some t u owns)) stands_in))

-- the owner holds its monitor more or less often
pub IsSound-held : (f : FatState) (m : ℕ) (u : ThreadId) (n : ℕ) → IsSound f → (monitor_at f m).owner ≡ Some u → 1 ≤ n → n ≤ 65535 → IsSound (with_owner f m (Some u) n)
IsSound-held f m u n sound owned low high =
    IsSound-with_owner f m (Some u) n sound (owned_bound f m u owned) high (owned_holds u n low) (λ x stands_in. refl)
    (λ x r stands_in owns. sound.apart x m r stands_in (owned ∙ owns))

-- nobody owns a monitor that nobody waits for
pub IsSound-freed : (f : FatState) (m : ℕ) → IsSound f → m < length f.monitors → first_of f m Entry ≡ None → IsSound (with_owner f m None 0)
IsSound-freed f m sound bound none =
    IsSound-with_owner f m None 0 sound bound (omega arith) ((λ e. refl), (λ e. refl)) (λ u stands_in. absurd (nobody_first f m Entry u none stands_in)) (λ u r stands_in owns. cc)

-- ---- lines

-- a thread that is out joins the entry line behind another owner
pub IsSound-entering : (f : FatState) (t u : ThreadId) (m : ℕ) → IsSound f → post_of f t ≡ Some Out → (monitor_at f m).owner ≡ Some u → u ≢ t → IsSound (after_parking f t (Entering m) m Entry)
IsSound-entering f t u m sound out owned other =
    IsSound-after_parking f t Out (Entering m) m Entry sound out refl (owned_bound f m u owned) refl (λ e. is_some_owner (monitor_at f m).owner u owned)
    (λ owns. other (same_Some u t (sym owned ∙ owns)))

-- a thread that is out and does not own the monitor joins its wait set
pub IsSound-waiting : (f : FatState) (t : ThreadId) (m n : ℕ) (d : Option ℕ) → IsSound f → m < length f.monitors → post_of f t ≡ Some Out → (monitor_at f m).owner ≢ Some t → IsHeld n
    → IsSound (after_parking f t (Waiting m n d) m WaitSet)
IsSound-waiting f t m n d sound bound out other held =
    IsSound-after_parking f t Out (Waiting m n d) m WaitSet sound out refl (bound, held) refl (λ e. absurd (cc)) other

-- a thread takes the reply that it was granted
pub IsSound-collect_outcome : (f : FatState) (t : ThreadId) (r : Reply) → IsSound f → post_of f t ≡ Some (Granted r) → IsSound (with_post f t Out)
IsSound-collect_outcome f t r sound here = IsSound-with_post f t (Granted r) Out sound here refl tt refl
