-- What slots and positions show when a slot is taken out, and the last one takes its position.
use Rattle.std.specs.Prelude.{◌≡◌, ◌⊎◌, ℕ, zero, suc, ◌-◌, ◌<◌, ◌≤◌, ◌==◌, List, [], ◌∷◌, Option, Some, None, cond, length, slice_get, slice_set, slice_index_or, take}
use Rattle.std.proofs.Common.{refl, ap, sym, ◌∙◌, inl, inr, subst, arith}
use Rattle.std.proofs.lemmas.Bool.{cases_eq, cases_lt, eq-eqb, ne_eqb}
use Rattle.std.proofs.lemmas.Option.{same_Some, slice_get_past, slice_get-get_or, MatchOption-at_some, MatchOption-at_none}
use Rattle.std.specs.Option.{MatchOption, IfSome, IsSome}
use Rattle.std.specs.List.{swap_remove}
use Rattle.std.specs.BTreeMap.{BTreeMap, is_at, Updates}
use Rattle.std.specs.Ordering.{nat_cmp}
use Rattle.std.specs.Cmp.{nat_cmp_total}
use Rattle.std.specs.FinMap as map
use Rattle.std.specs.FinMap.{same_map, nat_cmp-IsAntisymmetric}
use Rattle.fat_monitor.proofs.PostMaps.{get-remove_by}
use Rattle.jls_check.specs.declared.slots.Slot.{Slot}
use Rattle.jls_check.specs.Slots.{records_in, LeadToSlots, HavePositions}
use Rattle.jls_check.proofs.LiveMaps.{at_key}
use Rattle.jls_check.proofs.Positions.{Haves, Leads, get_records, haves-drop, haves-put, leads-drop, leads-put, no_record, position_in, position_within, set_elsewhere, set_here, value-drop, value-put, value_at}

-- ---- the first part of a list

take_below : (xs : List Slot) (n j : ℕ) → j < n → slice_get (take n xs) j ≡ slice_get xs j
take_below [] zero j h = absurd (omega arith)
take_below [] (suc n) j h = refl
take_below (z ∷ zs) zero j h = absurd (omega arith)
take_below (z ∷ zs) (suc n) zero h = refl
take_below (z ∷ zs) (suc n) (suc j) h = take_below zs n j (omega arith)

take_past : (xs : List Slot) (n j : ℕ) → n ≤ j → slice_get (take n xs) j ≡ None
take_past [] zero j h = refl
take_past [] (suc n) j h = refl
take_past (z ∷ zs) zero j h = refl
take_past (z ∷ zs) (suc n) zero h = absurd (omega arith)
take_past (z ∷ zs) (suc n) (suc j) h = take_past zs n j (omega arith)

-- ---- the list of slots without one

module _ (slots : List Slot) (k : ℕ) (d : Slot) (within : k < length slots) where
  swapped_elsewhere : (j : ℕ) → (j ≡ k → ⊥) → j < length slots - 1 → slice_get (swap_remove slots k d) j ≡ slice_get slots j
  swapped_elsewhere j other below =
      take_below (slice_set slots k (slice_index_or slots (length slots - 1) d)) (length slots - 1) j below
      ∙ set_elsewhere slots k (slice_index_or slots (length slots - 1) d) j other

  swapped_past : (j : ℕ) → length slots - 1 ≤ j → slice_get (swap_remove slots k d) j ≡ None
  swapped_past j past = take_past (slice_set slots k (slice_index_or slots (length slots - 1) d)) (length slots - 1) j past

  last_there : slice_get slots (length slots - 1) ≡ Some (slice_index_or slots (length slots - 1) d)
  last_there = slice_get-get_or slots (length slots - 1) d (omega arith)

  swapped_here : k < length slots - 1 → slice_get (swap_remove slots k d) k ≡ Some (slice_index_or slots (length slots - 1) d)
  swapped_here below =
      take_below (slice_set slots k (slice_index_or slots (length slots - 1) d)) (length slots - 1) k below
      ∙ set_here slots k (slice_index_or slots (length slots - 1) d) (slice_index_or slots k d) (slice_get-get_or slots k d within)

-- ---- slots and positions without a number

beyond_last : (j n : ℕ) → n - 1 ≤ j → (j ≡ n - 1 → ⊥) → n ≤ j
beyond_last j n past apart = by (cases_lt j n)
  where
    by : (j < n) ⊎ (n ≤ j) → n ≤ j
    by (inl less) = absurd (apart (omega arith))
    by (inr more) = more

-- what holds of slots and positions without t
abbrev pub StandsWithout : ℕ → List Slot → List (ℕ × ℕ) → List Slot → List (ℕ × ℕ) → Type 0
StandsWithout t slots positions slots' positions' =
    LeadToSlots slots' positions' × HavePositions slots' positions'
    × ((q : ℕ) → value_at (slice_get slots') (position_in positions') q ≡ cond (q == t) None (value_at (slice_get slots) (position_in positions) q))

module _ (slots : List Slot) (positions positions' : List (ℕ × ℕ)) (t k : ℕ) (d : Slot)
    (leads : LeadToSlots slots positions)
    (haves : HavePositions slots positions)
    (found : position_in positions t ≡ Some k)
    (drops : (q : ℕ) → position_in positions' q ≡ cond (is_at (nat_cmp t) q) None (position_in positions q)) where
  here : k < length slots
  here = position_within slots positions t k leads found

  dropped : position_in positions' t ≡ None
  dropped = drops t ∙ ap (λ b. cond b None (position_in positions t)) (at_key t t ∙ eq-eqb t t refl)

  kept_positions : (q : ℕ) → (q ≡ t → ⊥) → position_in positions' q ≡ position_in positions q
  kept_positions q other = drops q ∙ ap (λ b. cond b None (position_in positions q)) (at_key t q ∙ ne_eqb q t other)

  -- the last slot's number, where it is not the one that goes
  abbrev number : ℕ
  number = (slice_index_or slots (length slots - 1) d).number

  position_of_last : position_in positions number ≡ Some (length slots - 1)
  position_of_last = haves (length slots - 1) (slice_index_or slots (length slots - 1) d) (last_there slots k d here)

  other_number : k < length slots - 1 → number ≡ t → ⊥
  other_number below same =
      let at : k ≡ length slots - 1 = same_Some k (length slots - 1) (sym found ∙ ap (position_in positions) (sym same) ∙ position_of_last) in
      absurd (omega arith)

  pub still_led : k < length slots - 1 → position_in positions' (slice_index_or slots (length slots - 1) d).number ≡ Some (length slots - 1)
  still_led below = kept_positions number (other_number below) ∙ position_of_last

  -- the last slot goes itself
  without_last : length slots - 1 ≤ k → StandsWithout t slots positions (swap_remove slots k d) positions'
  without_last past =
      let a = slice_get slots in
      let a' = slice_get (swap_remove slots k d) in
      let gone : slice_get (swap_remove slots k d) k ≡ None = swapped_past slots k d here k past in (
        leads-drop a a' (position_in positions) (position_in positions') t k leads haves found gone others dropped kept_positions,
        haves-drop a a' (position_in positions) (position_in positions') t k leads haves found gone others dropped kept_positions,
        value-drop a a' (position_in positions) (position_in positions') t k leads haves found gone others dropped kept_positions,
      )
    where
      others : (j : ℕ) → (j ≡ k → ⊥) → slice_get (swap_remove slots k d) j ≡ slice_get slots j
      others j other = by (cases_lt j (length slots - 1))
        where
          by : (j < length slots - 1) ⊎ (length slots - 1 ≤ j) → slice_get (swap_remove slots k d) j ≡ slice_get slots j
          by (inl below) = swapped_elsewhere slots k d here j other below
          by (inr past') =
              let apart : j ≡ length slots - 1 → ⊥ = λ same. other (omega (arith, same, past, here)) in
              swapped_past slots k d here j past' ∙ sym (slice_get_past slots j (beyond_last j (length slots) past' apart))

  -- the slot at the free position and the last one are gone
  abbrev a1 : ℕ → Option Slot
  a1 j = cond (j == k) None (slice_get slots j)

  abbrev a2 : ℕ → Option Slot
  a2 j = cond (j == length slots - 1) None (a1 j)

  abbrev p2 : ℕ → Option ℕ
  p2 q = cond (q == number) None (position_in positions' q)

  gone1 : a1 k ≡ None
  gone1 = rw (eq-eqb k k refl) refl

  others1 : (j : ℕ) → (j ≡ k → ⊥) → a1 j ≡ slice_get slots j
  others1 j other = rw (ne_eqb j k other) refl

  gone2 : a2 (length slots - 1) ≡ None
  gone2 = rw (eq-eqb (length slots - 1) (length slots - 1) refl) refl

  others2 : (j : ℕ) → (j ≡ length slots - 1 → ⊥) → a2 j ≡ a1 j
  others2 j other = rw (ne_eqb j (length slots - 1) other) refl

  led2 : p2 number ≡ None
  led2 = rw (eq-eqb number number refl) refl

  rest2 : (q : ℕ) → (q ≡ number → ⊥) → p2 q ≡ position_in positions' q
  rest2 q other = rw (ne_eqb q number other) refl

  leads1 : Leads a1 (position_in positions')
  leads1 = leads-drop (slice_get slots) a1 (position_in positions) (position_in positions') t k leads haves found gone1 others1 dropped kept_positions

  haves1 : Haves a1 (position_in positions')
  haves1 = haves-drop (slice_get slots) a1 (position_in positions) (position_in positions') t k leads haves found gone1 others1 dropped kept_positions

  value1 : (q : ℕ) → value_at a1 (position_in positions') q ≡ cond (q == t) None (value_at (slice_get slots) (position_in positions) q)
  value1 = value-drop (slice_get slots) a1 (position_in positions) (position_in positions') t k leads haves found gone1 others1 dropped kept_positions

  leads2 : k < length slots - 1 → Leads a2 p2
  leads2 below = leads-drop a1 a2 (position_in positions') p2 number (length slots - 1) leads1 haves1 (still_led below) gone2 others2 led2 rest2

  haves2 : k < length slots - 1 → Haves a2 p2
  haves2 below = haves-drop a1 a2 (position_in positions') p2 number (length slots - 1) leads1 haves1 (still_led below) gone2 others2 led2 rest2

  value2 : k < length slots - 1 → (q : ℕ) → value_at a2 p2 q ≡ cond (q == number) None (value_at a1 (position_in positions') q)
  value2 below = value-drop a1 a2 (position_in positions') p2 number (length slots - 1) leads1 haves1 (still_led below) gone2 others2 led2 rest2

  -- the last slot takes the free position, and its number's position follows
  module _ (positions'' : List (ℕ × ℕ)) (below : k < length slots - 1) (led : (q : ℕ) → position_in positions'' q ≡ cond (is_at (nat_cmp number) q) (Some k) (position_in positions' q)) where
    apart_last : k ≡ length slots - 1 → ⊥
    apart_last e = omega (arith, e, below)

    alone_free : (q : ℕ) → p2 q ≡ Some k → q ≡ number
    alone_free q e =
        let s = leads2 below q k e in
        let free : a2 k ≡ None = others2 k apart_last ∙ gone1 in
        let never : None ≡ Some s.0 = sym free ∙ s.1 in
        absurd (cc)

    mine_free : (j : ℕ) → p2 number ≡ Some j → j ≡ k
    mine_free j e = absurd (let never : None ≡ Some j = sym led2 ∙ e in cc)

    others_free : (j : ℕ) → (j ≡ k → ⊥) → slice_get (swap_remove slots k d) j ≡ a2 j
    others_free j other = by (cases_lt j (length slots - 1))
      where
        by_last : length slots - 1 ≤ j → (j ≡ length slots - 1) ⊎ (j ≡ length slots - 1 → ⊥) → slice_get (swap_remove slots k d) j ≡ a2 j
        by_last past (inl same) = swapped_past slots k d here j past ∙ sym (ap a2 same ∙ gone2)
        by_last past (inr apart) =
            swapped_past slots k d here j past ∙ sym (others2 j apart ∙ others1 j other ∙ slice_get_past slots j (beyond_last j (length slots) past apart))

        by : (j < length slots - 1) ⊎ (length slots - 1 ≤ j) → slice_get (swap_remove slots k d) j ≡ a2 j
        by (inl less) =
            swapped_elsewhere slots k d here j other less
            ∙ sym (others2 j (λ e. omega (arith, e, less)) ∙ others1 j other)
        by (inr past) = by_last past (cases_eq j (length slots - 1))

    led_free : position_in positions'' number ≡ Some k
    led_free = led number ∙ ap (λ b. cond b (Some k) (position_in positions' number)) (at_key number number ∙ eq-eqb number number refl)

    rest_free : (q : ℕ) → (q ≡ number → ⊥) → position_in positions'' q ≡ p2 q
    rest_free q other = led q ∙ ap (λ b. cond b (Some k) (position_in positions' q)) (at_key number q ∙ ne_eqb q number other) ∙ sym (rest2 q other)

    last_value : (q : ℕ) → (q ≡ number) ⊎ (q ≡ number → ⊥)
        → cond (q == number) (Some (slice_index_or slots (length slots - 1) d).kept) (cond (q == number) None (value_at a1 (position_in positions') q)) ≡ cond (q == t) None (value_at (slice_get slots) (position_in positions) q)
    last_value q (inl same) =
        let apart : q ≡ t → ⊥ = λ e. other_number below (sym same ∙ e) in
        rw (eq-eqb q number same, ne_eqb q t apart, same, position_of_last, last_there slots k d here) refl
    last_value q (inr other) = rw (ne_eqb q number other) (value1 q)

    with_moved : StandsWithout t slots positions (swap_remove slots k d) positions''
    with_moved =
        let a' = slice_get (swap_remove slots k d) in
        let new : Slot = slice_index_or slots (length slots - 1) d in
        let put = swapped_here slots k d here below in (
          leads-put a2 a' p2 (position_in positions'') k new (leads2 below) (haves2 below) alone_free mine_free put others_free led_free rest_free,
          haves-put a2 a' p2 (position_in positions'') k new (leads2 below) (haves2 below) alone_free mine_free put others_free led_free rest_free,
          λ q. value-put a2 a' p2 (position_in positions'') k new (leads2 below) (haves2 below) alone_free mine_free put others_free led_free rest_free q
              ∙ ap (λ o. cond (q == number) (Some new.kept) o) (value2 below q) ∙ last_value q (cases_eq q number),
        )

module _ (slots : List Slot) (positions : List (ℕ × ℕ)) (m m' : BTreeMap ℕ ℕ) (t k : ℕ) (d : Slot)
    (leads : LeadToSlots slots positions)
    (haves : HavePositions slots positions)
    (found : position_in positions t ≡ Some k)
    (drops : (q : ℕ) → position_in m.entries q ≡ cond (is_at (nat_cmp t) q) None (position_in positions q)) where
  pub taken_out : MatchOption (slice_get (swap_remove slots k d) k) (m'.entries ≡ m.entries) (λ s. Updates nat_cmp m m' s.number (Some k))
      → StandsWithout t slots positions (swap_remove slots k d) m'.entries
  taken_out follows = by (cases_lt k (length slots - 1))
    where
      within : k < length slots
      within = position_within slots positions t k leads found

      by : (k < length slots - 1) ⊎ (length slots - 1 ≤ k) → StandsWithout t slots positions (swap_remove slots k d) m'.entries
      by (inl below) =
          let updates = MatchOption-at_some (m'.entries ≡ m.entries) (λ (s : Slot). Updates nat_cmp m m' s.number (Some k)) (slice_index_or slots (length slots - 1) d) (swapped_here slots k d within below) follows in
          with_moved slots positions m.entries t k d leads haves found drops m'.entries below updates.0
      by (inr past) =
          let same = MatchOption-at_none (m'.entries ≡ m.entries) (λ (s : Slot). Updates nat_cmp m m' s.number (Some k)) (swapped_past slots k d within k past) follows in
          subst (λ (es : List (ℕ × ℕ)). StandsWithout t slots positions (swap_remove slots k d) es) (sym same) (without_last slots positions m.entries t k d leads haves found drops past)

  -- the slot that comes to the position, if one does, has a position
  pub still_there : IfSome (slice_get (swap_remove slots k d) k) (λ s. IsSome (position_in m.entries s.number))
  still_there = by (cases_lt k (length slots - 1))
    where
      within : k < length slots
      within = position_within slots positions t k leads found

      by : (k < length slots - 1) ⊎ (length slots - 1 ≤ k) → IfSome (slice_get (swap_remove slots k d) k) (λ s. IsSome (position_in m.entries s.number))
      by (inl below) = rw (swapped_here slots k d within below, still_led slots positions m.entries t k d leads haves found drops below) refl
      by (inr past) = rw (swapped_past slots k d within k past) tt

-- the records without one
pub records-without : (t : ℕ) (slots : List Slot) (positions : List (ℕ × ℕ)) (slots' : List Slot) (positions' : List (ℕ × ℕ)) → StandsWithout t slots positions slots' positions' → records_in slots' positions' ≡ map.remove (records_in slots positions) t
records-without t slots positions slots' positions' stands = same_map nat_cmp_total nat_cmp-IsAntisymmetric _ _ (λ q.
    get_records slots' positions' q ∙ stands.2 q ∙ ap (λ o. cond (q == t) None o) (sym (get_records slots positions q)) ∙ sym (get-remove_by (records_in slots positions) t q))

-- nothing goes where there is no position
pub records-absent : (slots : List Slot) (positions : List (ℕ × ℕ)) (t : ℕ) → position_in positions t ≡ None → records_in slots positions ≡ map.remove (records_in slots positions) t
records-absent slots positions t none = same_map nat_cmp_total nat_cmp-IsAntisymmetric _ _ (λ q. by q (cases_eq q t) ∙ sym (get-remove_by (records_in slots positions) t q))
  where
    by : (q : ℕ) → (q ≡ t) ⊎ (q ≡ t → ⊥) → map.get (records_in slots positions) q ≡ cond (q == t) None (map.get (records_in slots positions) q)
    by q (inl same) = rw (eq-eqb q t same) (ap (map.get (records_in slots positions)) same ∙ no_record slots positions t none)
    by q (inr other) = rw (ne_eqb q t other) refl
