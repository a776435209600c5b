-- Berths and the threads that have them.
use Rattle.std.specs.Prelude.{◌≡◌, ℕ, ◌+◌, ◌<◌, ◌⊎◌, Bool, true, false, List, [], ◌∷◌, length, replicate, zero, suc, Option, Some, None, is_none, slice_set, IfSome}
use Rattle.std.specs.List.{position_from}
use Rattle.std.proofs.Common.{arith, refl, ap, sym, ◌∙◌, inl, inr, get_or-set_same, get_or-set_other, zero-add}
use Rattle.std.proofs.lemmas.Bool.{cases_eq, eqb-true, eq-eqb, ne_eqb}
use Rattle.std.proofs.lemmas.Option.{same_Some}
use Rattle.std.proofs.lemmas.List.{set-set, set-get_or}
use Rattle.lock_word.specs.declared.ThreadId.{ThreadId}
use Rattle.thread_index.specs.Indices.{is_held_by, berth_of, free_berth, holder_at, IsOneToOne}

-- the test passes this far on
abbrev Passes : (Option ThreadId → Bool) → ℕ → List (Option ThreadId) → ℕ → Type 0
Passes test i berths k = (j : ℕ) × (k ≡ i + j) × (j < length berths) × (test (holder_at berths j) ≡ true)

passes_by_test : (test : Option ThreadId → Bool) (i : ℕ) (x : Option ThreadId) (xs : List (Option ThreadId)) (k : ℕ) (b : Bool) → test x ≡ b
    → (position_from test (i + 1) xs ≡ Some k → Passes test (i + 1) xs k)
    → position_from test i (x ∷ xs) ≡ Some k → Passes test i (x ∷ xs) k
passes_by_test test i x xs k true b again e =
    let same : i ≡ k = same_Some i k (rw b at e) in (0, omega arith, omega arith, b)
passes_by_test test i x xs k false b again e =
    let later = again (rw b at e) in (suc later.0, omega arith, omega arith, later.3)

-- a position that is found passes the test
passes : (test : Option ThreadId → Bool) (i : ℕ) (berths : List (Option ThreadId)) (k : ℕ) → position_from test i berths ≡ Some k → Passes test i berths k
passes test i [] k e = absurd (cc)
passes test i (x ∷ xs) k e = passes_by_test test i x xs k (test x) refl (passes test (i + 1) xs k) e

step : (test : Option ThreadId → Bool) (i k : ℕ) (x : Option ThreadId) (xs ys : List (Option ThreadId)) (b : Bool) → test x ≡ b
    → (position_from test (i + 1) xs ≡ None → position_from test (i + 1) ys ≡ Some (i + 1 + k))
    → position_from test i (x ∷ xs) ≡ None → position_from test i (x ∷ ys) ≡ Some (i + suc k)
step test i k x xs ys true b again e = let h : Some i ≡ None = rw b at e in absurd (cc)
step test i k x xs ys false b again e =
    let n : i + 1 + k ≡ i + suc k = omega arith in rw (b, ← n) (again (rw b at e))

-- what is written where nothing passed before is found
found_where_written : (test : Option ThreadId → Bool) (i : ℕ) (berths : List (Option ThreadId)) (k : ℕ) (y : Option ThreadId) → test y ≡ true → k < length berths
    → position_from test i berths ≡ None → position_from test i (slice_set berths k y) ≡ Some (i + k)
found_where_written test i [] k y passes within none = absurd (omega arith)
found_where_written test i (x ∷ xs) zero y passes within none = let n : i + 0 ≡ i = omega arith in rw (passes, n) refl
found_where_written test i (x ∷ xs) (suc k) y passes within none =
    step test i k x xs (slice_set xs k y) (test x) refl (found_where_written test (i + 1) xs k y passes (omega arith)) none

same_step : (test : Option ThreadId → Bool) (i : ℕ) (x : Option ThreadId) (xs ys : List (Option ThreadId))
    → position_from test (i + 1) xs ≡ position_from test (i + 1) ys → position_from test i (x ∷ xs) ≡ position_from test i (x ∷ ys)
same_step test i x xs ys again = rw again refl

-- a write that does not pass, over what did not, leaves the position
unmoved : (test : Option ThreadId → Bool) (i : ℕ) (berths : List (Option ThreadId)) (k : ℕ) (y : Option ThreadId) → test y ≡ false → test (holder_at berths k) ≡ false
    → position_from test i (slice_set berths k y) ≡ position_from test i berths
unmoved test i [] k y new old = refl
unmoved test i (x ∷ xs) zero y new old = rw (new, old) refl
unmoved test i (x ∷ xs) (suc k) y new old = same_step test i x (slice_set xs k y) xs (unmoved test (i + 1) xs k y new old)

-- where nothing passes, nothing is found
none_passes : (test : Option ThreadId → Bool) (berths : List (Option ThreadId)) (found : Option ℕ) → position_from test 0 berths ≡ found
    → ((k : ℕ) → test (holder_at berths k) ≡ true → ⊥) → position_from test 0 berths ≡ None
none_passes test berths None e never = e
none_passes test berths (Some k) e never =
    let h = passes test 0 berths k e in absurd (never h.0 h.3)

-- a thread is its number
same_thread : (t u : ThreadId) → u.0 ≡ t.0 → u ≡ t
same_thread t u e = ap (λ (n : ℕ). let x : ThreadId = record { 0 = n } in x) e

held_by : (holder : Option ThreadId) (t : ThreadId) → is_held_by holder t ≡ true → holder ≡ Some t
held_by None t e = absurd (cc)
held_by (Some u) t e = ap (λ (x : ThreadId). Some x) (same_thread t u (eqb-true u.0 t.0 e))

is_nobody : (holder : Option ThreadId) → is_none holder ≡ true → holder ≡ None
is_nobody None e = refl
is_nobody (Some u) e = absurd (cc)

-- a thread has its berth
pub berth_found : (berths : List (Option ThreadId)) (t : ThreadId) (k : ℕ) → berth_of berths t ≡ Some k → (k < length berths) × (holder_at berths k ≡ Some t)
berth_found berths t k e =
    let h = passes (λ u. is_held_by u t) 0 berths k e in
    let same : h.0 ≡ k = omega arith in
    (omega arith, held_by (holder_at berths k) t (rw same at h.3))

-- one berth has one thread
pub berth_thread : (berths : List (Option ThreadId)) (t u : ThreadId) (k : ℕ) → berth_of berths t ≡ Some k → berth_of berths u ≡ Some k → u.0 ≡ t.0
berth_thread berths t u k et eu =
    let ht = berth_found berths t k et in let hu = berth_found berths u k eu in
    ap (λ (x : ThreadId). x.0) (same_Some u t (sym hu.1 ∙ ht.1))

-- threads with one number have one berth
pub berth_same : (berths : List (Option ThreadId)) (t u : ThreadId) → u.0 ≡ t.0 → berth_of berths u ≡ berth_of berths t
berth_same berths t u e = ap (λ (x : ThreadId). berth_of berths x) (same_thread t u e)

-- nobody has a free berth
pub free_found : (berths : List (Option ThreadId)) (k : ℕ) → free_berth berths ≡ Some k → (k < length berths) × (holder_at berths k ≡ None)
free_found berths k e =
    let h = passes is_none 0 berths k e in
    let same : h.0 ≡ k = omega arith in
    (omega arith, is_nobody (holder_at berths k) (rw same at h.3))

-- a thread with no berth that takes a free one has that
pub berth_taken_same : (berths : List (Option ThreadId)) (t : ThreadId) (k : ℕ) → berth_of berths t ≡ None → free_berth berths ≡ Some k
    → berth_of (slice_set berths k (Some t)) t ≡ Some k
berth_taken_same berths t k none free =
    found_where_written (λ u. is_held_by u t) 0 berths k (Some t) (eq-eqb t.0 t.0 refl) (free_found berths k free).0 none ∙ ap (λ (n : ℕ). Some n) (zero-add k)

-- other threads keep their berths when a free one is taken
pub berth_taken_other : (berths : List (Option ThreadId)) (t u : ThreadId) (k : ℕ) → free_berth berths ≡ Some k → (u.0 ≡ t.0 → ⊥)
    → berth_of (slice_set berths k (Some t)) u ≡ berth_of berths u
berth_taken_other berths t u k free ne =
    unmoved (λ x. is_held_by x u) 0 berths k (Some t) (ne_eqb t.0 u.0 (λ e. ne (sym e))) (ap (λ x. is_held_by x u) (free_found berths k free).1)

-- taking a free berth keeps one thread a berth
pub IsOneToOne-taken : (berths : List (Option ThreadId)) (t : ThreadId) (k : ℕ) → IsOneToOne berths → berth_of berths t ≡ None → free_berth berths ≡ Some k
    → IsOneToOne (slice_set berths k (Some t))
IsOneToOne-taken berths t k one none free j u e = at (cases_eq j k)
  where
    other : berth_of berths u ≡ Some j → (u.0 ≡ t.0) ⊎ (u.0 ≡ t.0 → ⊥) → berth_of (slice_set berths k (Some t)) u ≡ Some j
    other had (inl same) = let h : berth_of berths u ≡ None = berth_same berths t u same ∙ none in absurd (cc)
    other had (inr ne) = berth_taken_other berths t u k free ne ∙ had

    at : (j ≡ k) ⊎ (j ≡ k → ⊥) → berth_of (slice_set berths k (Some t)) u ≡ Some j
    at (inl same) =
        let here : holder_at (slice_set berths k (Some t)) k ≡ Some u = rw same at e in
        let mine : t ≡ u = same_Some t u (sym (get_or-set_same berths k (Some t) None (free_found berths k free).0) ∙ here) in
        berth_same (slice_set berths k (Some t)) t u (ap (λ (x : ThreadId). x.0) (sym mine)) ∙ berth_taken_same berths t k none free ∙ ap (λ (n : ℕ). Some n) (sym same)
    at (inr ne) = other (one j u (sym (get_or-set_other berths k j (Some t) None ne) ∙ e)) (cases_eq u.0 t.0)

-- taking a free berth and giving it back is nothing
pub taken_given : (berths : List (Option ThreadId)) (t : ThreadId) (k : ℕ) → free_berth berths ≡ Some k → slice_set (slice_set berths k (Some t)) k None ≡ berths
taken_given berths t k free =
    set-set berths k (Some t) None ∙ ap (λ x. slice_set berths k x) (sym (free_found berths k free).1) ∙ set-get_or berths k None

-- who gives its berth back has none
pub berth_given_same : (berths : List (Option ThreadId)) (t : ThreadId) (k : ℕ) → IsOneToOne berths → berth_of berths t ≡ Some k
    → berth_of (slice_set berths k None) t ≡ None
berth_given_same berths t k one berth =
    none_passes (λ u. is_held_by u t) (slice_set berths k None) (berth_of (slice_set berths k None) t) refl (λ j here. gone j (held_by (holder_at (slice_set berths k None) j) t here) (cases_eq j k))
  where
    gone : (j : ℕ) → holder_at (slice_set berths k None) j ≡ Some t → (j ≡ k) ⊎ (j ≡ k → ⊥) → ⊥
    gone j here (inl same) =
        let empty : holder_at (slice_set berths k None) j ≡ None = rw same (get_or-set_same berths k None None (berth_found berths t k berth).0) in cc
    gone j here (inr ne) =
        let there : Some j ≡ Some k = sym (one j t (sym (get_or-set_other berths k j None None ne) ∙ here)) ∙ berth in
        ne (same_Some j k there)

-- other threads keep their berths when one gives its own back
pub berth_given_other : (berths : List (Option ThreadId)) (t u : ThreadId) (k : ℕ) → berth_of berths t ≡ Some k → (u.0 ≡ t.0 → ⊥)
    → berth_of (slice_set berths k None) u ≡ berth_of berths u
berth_given_other berths t u k berth ne =
    unmoved (λ x. is_held_by x u) 0 berths k None refl (ap (λ x. is_held_by x u) (berth_found berths t k berth).1 ∙ ne_eqb t.0 u.0 (λ e. ne (sym e)))

-- giving a berth back keeps one thread a berth
pub IsOneToOne-given : (berths : List (Option ThreadId)) (t : ThreadId) (k : ℕ) → IsOneToOne berths → berth_of berths t ≡ Some k
    → IsOneToOne (slice_set berths k None)
IsOneToOne-given berths t k one berth j u e = at (cases_eq j k)
  where
    other : (j ≡ k → ⊥) → berth_of berths u ≡ Some j → (u.0 ≡ t.0) ⊎ (u.0 ≡ t.0 → ⊥) → berth_of (slice_set berths k None) u ≡ Some j
    other ne had (inl same) = absurd (ne (same_Some j k (sym had ∙ (berth_same berths t u same ∙ berth))))
    other ne had (inr apart) = berth_given_other berths t u k berth apart ∙ had

    at : (j ≡ k) ⊎ (j ≡ k → ⊥) → berth_of (slice_set berths k None) u ≡ Some j
    at (inl same) =
        let empty : holder_at (slice_set berths k None) j ≡ None = rw same (get_or-set_same berths k None None (berth_found berths t k berth).0) in absurd (cc)
    at (inr ne) = other ne (one j u (sym (get_or-set_other berths k j None None ne) ∙ e)) (cases_eq u.0 t.0)

-- nobody has a berth of which nothing is written down
pub holder_at-replicate : (n k : ℕ) → holder_at (replicate n None) k ≡ None
holder_at-replicate zero k = refl
holder_at-replicate (suc n) zero = refl
holder_at-replicate (suc n) (suc k) = holder_at-replicate n k

-- no thread has a berth where nobody has
pub berth_of-replicate : (n : ℕ) (t : ThreadId) → berth_of (replicate n None) t ≡ None
berth_of-replicate n t =
    none_passes (λ u. is_held_by u t) (replicate n None) (berth_of (replicate n None) t) refl
    (λ k here. let empty = holder_at-replicate n k in let h : holder_at (replicate n None) k ≡ Some t = held_by (holder_at (replicate n None) k) t here in cc)

-- berths that nobody has are one to one
pub IsOneToOne-replicate : (n : ℕ) → IsOneToOne (replicate n None)
IsOneToOne-replicate n k t e = let empty = holder_at-replicate n k in absurd (cc)

-- a berth that is found is one of the berths
pub berth_of-within : (berths : List (Option ThreadId)) (t : ThreadId) (found : Option ℕ) → found ≡ berth_of berths t → IfSome found (λ k. k < length berths)
berth_of-within berths t None e = tt
berth_of-within berths t (Some k) e = (berth_found berths t k (sym e)).0

-- and so is a free one
pub free_berth-within : (berths : List (Option ThreadId)) (found : Option ℕ) → found ≡ free_berth berths → IfSome found (λ k. k < length berths)
free_berth-within berths None e = tt
free_berth-within berths (Some k) e = (free_found berths k (sym e)).0
