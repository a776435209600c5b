-- The bits and the table of the berths, after each change.
use Rattle.std.specs.Prelude.{◌≡◌, ◌≢◌, ℕ, ◌+◌, ◌<◌, ◌≤◌, ◌==◌, ◌⊎◌, false, List, length, Option, Some, None, slice_set, if◌then◌else◌, nat_lt, nat_eq}
use Rattle.std.specs.HashMap.{HashMap, get, Updates}
use Rattle.std.specs.Bool.{then_some}
use Rattle.std.specs.List.{position_from}
use Rattle.std.proofs.Common.{arith, refl, ap, sym, ◌∙◌, inl, inr, get_or-set_same, get_or-set_other, [], ◌∷◌, zero, suc, is_none, zero-add}
use Rattle.std.proofs.lemmas.Bool.{cases_eq, cases_lt, eq-eqb, ne_eqb, lt-ltb, le-ltb}
use Rattle.lock_word.specs.declared.ThreadId.{ThreadId}
use Rattle.thread_index.specs.BitRows.{bit_of}
use Rattle.thread_index.specs.Indices.{berth_of, free_berth, holder_at, IsOneToOne}
use Rattle.thread_index.specs.Padding.{taken_bit, TellsBerths}
use Rattle.thread_index.proofs.Berths.{berth_found, free_found, berth_taken_same, berth_taken_other, berth_given_same, berth_given_other, berth_same}

-- a berth whose bit is 0 is free
pub free_from_bit : (holder : Option ThreadId) → taken_bit holder ≡ 0 → holder ≡ None
free_from_bit None e = refl
free_from_bit (Some t) e = absurd (omega (arith, e))

-- and one whose bit is 1 is not
pub taken_from_bit : (holder : Option ThreadId) → taken_bit holder ≡ 1 → is_none holder ≡ false
taken_from_bit None e = absurd (omega (arith, e))
taken_from_bit (Some t) e = refl

-- the first free berth after some that are taken
first_free : (i k : ℕ) (berths : List (Option ThreadId)) → k < length berths → holder_at berths k ≡ None → ((j : ℕ) → j < k → is_none (holder_at berths j) ≡ false)
    → position_from is_none i berths ≡ Some (i + k)
first_free i k [] within none taken = absurd (omega arith)
first_free i zero (x ∷ xs) within none taken = let n : i + 0 ≡ i = omega arith in rw (none, n) refl
first_free i (suc k) (x ∷ xs) within none taken =
    let n : i + 1 + k ≡ i + suc k = omega arith in
    rw (taken 0 (omega arith), ← n) (first_free (i + 1) k xs (omega arith) none (λ j below. taken (suc j) (omega arith)))

-- no berth is free where all are taken
none_free : (i : ℕ) (berths : List (Option ThreadId)) → ((j : ℕ) → j < length berths → is_none (holder_at berths j) ≡ false) → position_from is_none i berths ≡ None
none_free i [] taken = refl
none_free i (x ∷ xs) taken = rw (taken 0 (omega arith)) (none_free (i + 1) xs (λ j below. taken (suc j) (omega arith)))

-- the lowest berth whose bit is 0 is the lowest free one, where there is such a berth
pub free_berth-bits : {S : Type 0} (berths : List (Option ThreadId)) (words : List ℕ) (table : HashMap ℕ ℕ S) (k : ℕ) → TellsBerths berths words table
    → bit_of words k ≡ 0 → ((j : ℕ) → j < k → bit_of words j ≡ 1) → then_some (nat_lt k (length berths)) k ≡ free_berth berths
free_berth-bits berths words table k told clear lowest = at (cases_lt k (length berths))
  where
    taken : (j : ℕ) → j < k → is_none (holder_at berths j) ≡ false
    taken j below = taken_from_bit (holder_at berths j) (sym (told.bits j) ∙ lowest j below)

    at : (k < length berths) ⊎ (length berths ≤ k) → then_some (nat_lt k (length berths)) k ≡ free_berth berths
    at (inl within) =
        rw (lt-ltb k (length berths) within)
        (sym (first_free 0 k berths within (free_from_bit (holder_at berths k) (sym (told.bits k) ∙ clear)) taken ∙ ap (λ (n : ℕ). Some n) (zero-add k)))
    at (inr past) =
        rw (le-ltb k (length berths) past) (sym (none_free 0 berths (λ j below. taken j (omega arith))))

-- a thread takes the lowest free berth
pub TellsBerths-taken : {S : Type 0} (berths : List (Option ThreadId)) (words new : List ℕ) (table after : HashMap ℕ ℕ S) (t : ThreadId) (k : ℕ)
    → TellsBerths berths words table → berth_of berths t ≡ None → free_berth berths ≡ Some k
    → ((j : ℕ) → bit_of new j ≡ (if j == k then 1 else bit_of words j)) → Updates nat_eq table after t.0 (Some k)
    → TellsBerths (slice_set berths k (Some t)) new after
TellsBerths-taken berths words new table after t k told unknown free bits updates =
    record { bits = λ j. bit j (cases_eq j k); look_up = λ u. found u (cases_eq t.0 u.0) }
  where
    within : k < length berths
    within = (free_found berths k free).0

    bit : (j : ℕ) → (j ≡ k) ⊎ (j ≢ k) → bit_of new j ≡ taken_bit (holder_at (slice_set berths k (Some t)) j)
    bit j (inl e) = bits j ∙ rw (eq-eqb j k e, e, get_or-set_same berths k (Some t) None within) refl
    bit j (inr ne) = bits j ∙ rw (ne_eqb j k ne, get_or-set_other berths k j (Some t) None ne) (told.bits j)

    found : (u : ThreadId) → (t.0 ≡ u.0) ⊎ (t.0 ≢ u.0) → get nat_eq after u.0 ≡ berth_of (slice_set berths k (Some t)) u
    found u (inl e) =
        updates.0 u.0 ∙ rw (eq-eqb t.0 u.0 e) (sym (berth_same (slice_set berths k (Some t)) t u (sym e) ∙ berth_taken_same berths t k unknown free))
    found u (inr ne) =
        updates.0 u.0 ∙ rw (ne_eqb t.0 u.0 ne) (told.look_up u ∙ sym (berth_taken_other berths t u k free (λ e. ne (sym e))))

-- a thread gives its berth back
pub TellsBerths-given : {S : Type 0} (berths : List (Option ThreadId)) (words new : List ℕ) (table after : HashMap ℕ ℕ S) (t : ThreadId) (k : ℕ)
    → TellsBerths berths words table → IsOneToOne berths → berth_of berths t ≡ Some k
    → ((j : ℕ) → bit_of new j ≡ (if j == k then 0 else bit_of words j)) → Updates nat_eq table after t.0 None
    → TellsBerths (slice_set berths k None) new after
TellsBerths-given berths words new table after t k told one berth bits updates =
    record { bits = λ j. bit j (cases_eq j k); look_up = λ u. found u (cases_eq t.0 u.0) }
  where
    bit : (j : ℕ) → (j ≡ k) ⊎ (j ≢ k) → bit_of new j ≡ taken_bit (holder_at (slice_set berths k None) j)
    bit j (inl e) = bits j ∙ rw (eq-eqb j k e, e, get_or-set_same berths k None None (berth_found berths t k berth).0) refl
    bit j (inr ne) = bits j ∙ rw (ne_eqb j k ne, get_or-set_other berths k j None None ne) (told.bits j)

    found : (u : ThreadId) → (t.0 ≡ u.0) ⊎ (t.0 ≢ u.0) → get nat_eq after u.0 ≡ berth_of (slice_set berths k None) u
    found u (inl e) =
        updates.0 u.0 ∙ rw (eq-eqb t.0 u.0 e) (sym (berth_same (slice_set berths k None) t u (sym e) ∙ berth_given_same berths t k one berth))
    found u (inr ne) =
        updates.0 u.0 ∙ rw (ne_eqb t.0 u.0 ne) (told.look_up u ∙ sym (berth_given_other berths t u k berth (λ e. ne (sym e))))

-- the same berths, with the same bits and the same entries
pub TellsBerths-same : {S : Type 0} (old berths : List (Option ThreadId)) (words new : List ℕ) (table after : HashMap ℕ ℕ S) → TellsBerths old words table → berths ≡ old
    → ((j : ℕ) → bit_of new j ≡ bit_of words j) → after.entries ≡ table.entries → TellsBerths berths new after
TellsBerths-same old berths words new table after told same bits entries =
    record {
      bits = λ j. rw same (bits j ∙ told.bits j);
      look_up = λ u. rw (same, entries) (told.look_up u);
    }
