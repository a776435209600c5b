-- Berths of which only the first are written down.
use Rattle.std.specs.Prelude.{◌≡◌, ℕ, ◌+◌, ◌-◌, ◌<◌, ◌≤◌, ◌⊎◌, Bool, true, false, List, [], ◌∷◌, ◌++◌, length, replicate, zero, suc, Option, Some, None, is_none, slice_set}
use Rattle.std.specs.List.{position_from}
use Rattle.std.proofs.Common.{arith, refl, ap, sym, ◌∙◌, inl, inr, length-append, zero-add, subst, get_or}
use Rattle.std.proofs.lemmas.Bool.{cases_lt}
use Rattle.std.proofs.lemmas.Option.{same_Some}
use Rattle.std.proofs.lemmas.List.{length-replicate, length-set, set-append_left, append-nil, same_lists, get_or_default, get_or_append_left, get_or-append_right, get_or_past}
use Rattle.lock_word.specs.declared.ThreadId.{ThreadId}
use Rattle.thread_index.specs.Indices.{is_held_by, berth_of, free_berth, holder_at, IsOneToOne}
use Rattle.thread_index.specs.Padding.{padded, IsKept}
use Rattle.thread_index.proofs.Berths.{berth_found, free_found, IsOneToOne-taken, IsOneToOne-given, holder_at-replicate}

found_by_test : (test : Option ThreadId → Bool) (i k : ℕ) (x : Option ThreadId) (xs ys : List (Option ThreadId)) (b : Bool) → test x ≡ b
    → (position_from test (i + 1) xs ≡ Some k → position_from test (i + 1) ys ≡ Some k)
    → position_from test i (x ∷ xs) ≡ Some k → position_from test i (x ∷ ys) ≡ Some k
found_by_test test i k x xs ys true b again e = rw b (rw b at e)
found_by_test test i k x xs ys false b again e = rw b (again (rw b at e))

-- what is found stays where the list grows
found_before : (test : Option ThreadId → Bool) (i : ℕ) (xs ys : List (Option ThreadId)) (k : ℕ) → position_from test i xs ≡ Some k → position_from test i (xs ++ ys) ≡ Some k
found_before test i [] ys k e = absurd (cc)
found_before test i (x ∷ xs) ys k e = found_by_test test i k x xs (xs ++ ys) (test x) refl (found_before test (i + 1) xs ys k) e

beyond_by_test : (test : Option ThreadId → Bool) (i : ℕ) (x : Option ThreadId) (xs ys : List (Option ThreadId)) (b : Bool) → test x ≡ b
    → (position_from test (i + 1) xs ≡ None → position_from test (i + 1) (xs ++ ys) ≡ position_from test (i + 1 + length xs) ys)
    → position_from test i (x ∷ xs) ≡ None → position_from test i (x ∷ (xs ++ ys)) ≡ position_from test (i + suc (length xs)) ys
beyond_by_test test i x xs ys true b again e = let h : Some i ≡ None = rw b at e in absurd (cc)
beyond_by_test test i x xs ys false b again e =
    let n : i + 1 + length xs ≡ i + suc (length xs) = omega arith in rw (b, ← n) (again (rw b at e))

-- what is not found in the first part is looked for in the rest
found_beyond : (test : Option ThreadId → Bool) (i : ℕ) (xs ys : List (Option ThreadId)) → position_from test i xs ≡ None
    → position_from test i (xs ++ ys) ≡ position_from test (i + length xs) ys
found_beyond test i [] ys e = let n : i + 0 ≡ i = omega arith in rw n refl
found_beyond test i (x ∷ xs) ys e = beyond_by_test test i x xs ys (test x) refl (found_beyond test (i + 1) xs ys) e

berth_by_found : (holders : List (Option ThreadId)) (n : ℕ) (t : ThreadId) (found : Option ℕ) → berth_of holders t ≡ found → berth_of (holders ++ replicate n None) t ≡ found
berth_by_found holders n t None e = found_beyond (λ u. is_held_by u t) 0 holders (replicate n None) e ∙ never (0 + length holders) n
  where
    never : (i m : ℕ) → position_from (λ u. is_held_by u t) i (replicate m None) ≡ None
    never i zero = refl
    never i (suc m) = never (i + 1) m
berth_by_found holders n t (Some k) e = found_before (λ u. is_held_by u t) 0 holders (replicate n None) k e

-- a thread has its berth among those that are written down
pub berth_of-padded : (holders : List (Option ThreadId)) (limit : ℕ) (t : ThreadId) → berth_of (padded holders limit) t ≡ berth_of holders t
berth_of-padded holders limit t = berth_by_found holders (limit - length holders) t (berth_of holders t) refl

-- a berth that is free among those that are written down is the lowest
free_berth-padded_some : (holders : List (Option ThreadId)) (limit k : ℕ) → free_berth holders ≡ Some k → free_berth (padded holders limit) ≡ Some k
free_berth-padded_some holders limit k e = found_before is_none 0 holders (replicate (limit - length holders) None) k e

first_free : (i n m : ℕ) → n ≡ suc m → position_from (is_none {T = ThreadId}) i (replicate n None) ≡ Some i
first_free i n m e = rw e refl

-- where none of them is, it is the next
free_berth-padded_next : (holders : List (Option ThreadId)) (limit : ℕ) → free_berth holders ≡ None → length holders < limit
    → free_berth (padded holders limit) ≡ Some (length holders)
free_berth-padded_next holders limit e below =
    found_beyond is_none 0 holders (replicate (limit - length holders) None) e
    ∙ (first_free (0 + length holders) (limit - length holders) (limit - length holders - 1) (omega arith) ∙ ap (λ (n : ℕ). Some n) (zero-add (length holders)))

-- and where there is no next, there is none
free_berth-padded_none : (holders : List (Option ThreadId)) (limit : ℕ) → free_berth holders ≡ None → limit ≤ length holders
    → free_berth (padded holders limit) ≡ None
free_berth-padded_none holders limit e full =
    let none : limit - length holders ≡ 0 = omega arith in rw (none, append-nil holders) e

-- there are as many berths as the limit says
pub length-padded : (holders : List (Option ThreadId)) (limit : ℕ) → length holders ≤ limit → length (padded holders limit) ≡ limit
length-padded holders limit within =
    simp (length-append, length-replicate) (omega arith)

-- the lowest free berth is one of those that are written down, or the next
pub free_berth-written : (holders : List (Option ThreadId)) (limit k : ℕ) → length holders ≤ limit → free_berth (padded holders limit) ≡ Some k
    → (k ≤ length holders) × (k < limit)
free_berth-written holders limit k within e = by_found (free_berth holders) refl
  where
    below : k < limit
    below = let long = length-padded holders limit within in let h = (free_found (padded holders limit) k e).0 in rw long at h

    by_next : (length holders < limit) ⊎ (limit ≤ length holders) → free_berth holders ≡ None → (k ≤ length holders) × (k < limit)
    by_next (inl room) none =
        let same : length holders ≡ k = same_Some (length holders) k (sym (free_berth-padded_next holders limit none room) ∙ e) in (omega arith, below)
    by_next (inr full) none = let h = free_berth-padded_none holders limit none full in absurd (cc)

    by_found : (found : Option ℕ) → free_berth holders ≡ found → (k ≤ length holders) × (k < limit)
    by_found None none = by_next (cases_lt (length holders) limit) none
    by_found (Some j) some =
        let same : j ≡ k = same_Some j k (sym (free_berth-padded_some holders limit j some) ∙ e) in
        let h : j < length holders = (free_found holders j some).0 in (omega arith, below)

-- a write at a berth that is written down
pub padded-slice_set : (holders berths : List (Option ThreadId)) (limit k : ℕ) (x : Option ThreadId) → padded holders limit ≡ berths → k < length holders
    → padded (slice_set holders k x) limit ≡ slice_set berths k x
padded-slice_set holders berths limit k x shown written =
    rw (length-set holders k x)
    (sym (set-append_left holders (replicate (limit - length holders) None) k x written) ∙ ap (λ (xs : List (Option ThreadId)). slice_set xs k x) shown)

-- who has a berth has one of those that are written down
pub berth_of-written : (holders berths : List (Option ThreadId)) (limit k : ℕ) (t : ThreadId) → padded holders limit ≡ berths → berth_of berths t ≡ Some k → k < length holders
berth_of-written holders berths limit k t shown berth =
    (berth_found holders t k (sym (berth_of-padded holders limit t) ∙ (ap (λ (xs : List (Option ThreadId)). berth_of xs t) shown ∙ berth))).0

-- what holds of each list holds of one that shows a sound change of its berths
still_kept : (old new : List (Option ThreadId)) (limit : ℕ) (berths : List (Option ThreadId)) → IsKept old limit → length new ≤ limit
    → padded new limit ≡ berths → IsOneToOne berths → IsKept new limit
still_kept old new limit berths was within shown one =
    record {
      within = within;
      some = was.some;
      few = was.few;
      one_to_one = subst (λ (xs : List (Option ThreadId)). IsOneToOne xs) (sym shown) one;
    }

-- a berth that is given back keeps what holds of each list
pub IsKept-given : (holders berths : List (Option ThreadId)) (limit k : ℕ) (t : ThreadId) → padded holders limit ≡ berths → IsKept holders limit
    → berth_of berths t ≡ Some k → IsKept (slice_set holders k None) limit
IsKept-given holders berths limit k t shown was berth =
    still_kept holders (slice_set holders k None) limit (slice_set berths k None) was (rw (length-set holders k None) was.within)
    (padded-slice_set holders berths limit k None shown (berth_of-written holders berths limit k t shown berth))
    (IsOneToOne-given berths t k (subst (λ (xs : List (Option ThreadId)). IsOneToOne xs) shown was.one_to_one) berth)

-- so does a berth that is taken, of those that are written down
pub IsKept-taken : (holders berths : List (Option ThreadId)) (limit k : ℕ) (t : ThreadId) → padded holders limit ≡ berths → IsKept holders limit
    → k < length holders → berth_of berths t ≡ None → free_berth berths ≡ Some k → IsKept (slice_set holders k (Some t)) limit
IsKept-taken holders berths limit k t shown was written unknown free =
    still_kept holders (slice_set holders k (Some t)) limit (slice_set berths k (Some t)) was (rw (length-set holders k (Some t)) was.within)
    (padded-slice_set holders berths limit k (Some t) shown written)
    (IsOneToOne-taken berths t k (subst (λ (xs : List (Option ThreadId)). IsOneToOne xs) shown was.one_to_one) unknown free)

-- who has a berth that is shown has it among those that are written down, if it is one of them
pub holder_at-padded : (holders : List (Option ThreadId)) (limit k : ℕ) → holder_at (padded holders limit) k ≡ holder_at holders k
holder_at-padded holders limit k = at (cases_lt k (length holders))
  where
    at : (k < length holders) ⊎ (length holders ≤ k) → holder_at (padded holders limit) k ≡ holder_at holders k
    at (inl within) = get_or_append_left holders (replicate (limit - length holders) None) None k within
    at (inr past) =
        get_or-append_right holders (replicate (limit - length holders) None) (length holders) k None refl past
        ∙ (holder_at-replicate (limit - length holders) (k - length holders) ∙ sym (get_or_past holders k None past))

same_holders : (limit : ℕ) (old new : List (Option ThreadId)) → length old ≤ limit → length new ≤ limit → ((k : ℕ) → holder_at new k ≡ holder_at old k)
    → (k : ℕ) (d : Option ThreadId) → k < length (padded new limit) → get_or (padded new limit) k d ≡ get_or (padded old limit) k d
same_holders limit old new within fits same k d below =
    get_or_default (padded new limit) k d None below
    ∙ (holder_at-padded new limit k ∙ same k ∙ sym (holder_at-padded old limit k))
    ∙ get_or_default (padded old limit) k None d (rw (length-padded old limit within) (rw (length-padded new limit fits) at below))

-- berths are shown the same where more of them are written down
pub padded-same : (old new : List (Option ThreadId)) (limit : ℕ) → length old ≤ limit → length new ≤ limit → ((k : ℕ) → holder_at new k ≡ holder_at old k)
    → padded new limit ≡ padded old limit
padded-same old new limit within fits same =
    same_lists (padded new limit) (padded old limit) (length-padded new limit fits ∙ sym (length-padded old limit within)) (same_holders limit old new within fits same)
