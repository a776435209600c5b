-- Rows of bits in words of 64.
use Rattle.std.specs.Prelude.{◌≡◌, ◌≢◌, ℕ, ◌+◌, ◌-◌, ◌*◌, ◌/◌, ◌%◌, ◌^◌, ◌<◌, ◌≤◌, ◌==◌, ◌⊎◌, List, [], ◌∷◌, ◌++◌, length, slice_index, slice_set, if◌then◌else◌, max}
use Rattle.std.specs.Int.{bit_at, trailing_ones, w64}
use Rattle.std.proofs.Common.{arith, refl, ap, sym, ◌∙◌, inl, inr, get_or-set_same, get_or-set_other}
use Rattle.std.proofs.lemmas.Bool.{cases_eq, eq-eqb, ne_eqb, cases_lt}
use Rattle.std.proofs.lemmas.List.{get_or_past, get_or_append_left, get_or-append_right}
use Rattle.std.proofs.lemmas.Nat.Bits.{bit_at_ones, bit_at-trailing_ones}
use Rattle.thread_index.specs.BitRows.{bit_of, full_bit, AreTwoRows}

-- the bit that was written
pub bit_of-here : (row : List ℕ) (old : List ℕ) (position bit : ℕ) → ((k : ℕ) → bit_of row k ≡ (if k == position then bit else bit_of old k)) → bit_of row position ≡ bit
bit_of-here row old position bit bits = bits position ∙ rw (eq-eqb position position refl) refl

-- the bit at a position of a word
pub bit_of-position : (row : List ℕ) (j i : ℕ) → i < 64 → bit_of row (64 * j + i) ≡ bit_at (slice_index row j) i
bit_of-position row j i lt =
    let word : (64 * j + i) / 64 ≡ j = omega arith in
    let bit : (64 * j + i) % 64 ≡ i = omega arith in
    rw (word, bit) refl

-- a word that is written: one bit is new, and its others stay
pub bit_of-write : (row : List ℕ) (position old word bit : ℕ) → position < 64 * length row → old ≡ slice_index row (position / 64) → bit_at word (position % 64) ≡ bit
    → ((i : ℕ) → i < 64 → i ≢ position % 64 → bit_at word i ≡ bit_at old i)
    → (k : ℕ) → bit_of (slice_set row (position / 64) word) k ≡ (if k == position then bit else bit_of row k)
bit_of-write row position old word bit within is same others k = at (cases_eq k position)
  where
    there : position / 64 < length row
    there = omega arith

    here : bit_of (slice_set row (position / 64) word) position ≡ bit
    here = rw (get_or-set_same row (position / 64) word 0 there) same

    beside : k ≢ position → (k / 64 ≡ position / 64) ⊎ (k / 64 ≢ position / 64) → bit_of (slice_set row (position / 64) word) k ≡ bit_of row k
    beside ne (inl one) =
        let apart : k % 64 ≢ position % 64 = (λ e. ne (omega arith)) in
        let low : k % 64 < 64 = omega arith in
        rw (one, get_or-set_same row (position / 64) word 0 there) (others (k % 64) low apart ∙ ap (λ (n : ℕ). bit_at n (k % 64)) is)
    beside ne (inr other) = rw (get_or-set_other row (position / 64) (k / 64) word 0 other) refl

    at : (k ≡ position) ⊎ (k ≢ position) → bit_of (slice_set row (position / 64) word) k ≡ (if k == position then bit else bit_of row k)
    at (inl e) = rw (eq-eqb k position e, e) here
    at (inr ne) = rw (ne_eqb k position ne) (beside ne (cases_eq (k / 64) (position / 64)))

-- past the last word each is 0, so one more of 0 changes none
pub same_word : (row : List ℕ) (j : ℕ) → slice_index (row ++ 0 ∷ []) j ≡ slice_index row j
same_word row j = at (cases_lt j (length row))
  where
    last : (i : ℕ) → (i ≡ 0) ⊎ (i ≢ 0) → slice_index (0 ∷ []) i ≡ 0
    last i (inl e) = rw e refl
    last i (inr ne) = get_or_past (0 ∷ []) i 0 (omega arith)

    at : (j < length row) ⊎ (length row ≤ j) → slice_index (row ++ 0 ∷ []) j ≡ slice_index row j
    at (inl within) = get_or_append_left row (0 ∷ []) 0 j within
    at (inr past) =
        get_or-append_right row (0 ∷ []) (length row) j 0 refl past
        ∙ (last (j - length row) (cases_eq (j - length row) 0) ∙ sym (get_or_past row j 0 past))

-- the bit of a word that is not full
pub full_bit-other : (word : ℕ) → word ≢ 2 ^ 64 - 1 → full_bit word ≡ 0
full_bit-other word ne = rw (ne_eqb word (2 ^ 64 - 1) ne) refl

-- a word that has a 0 is not full
pub full_bit-clear : (word i : ℕ) → i < 64 → bit_at word i ≡ 0 → full_bit word ≡ 0
full_bit-clear word i lt clear = at (cases_eq word (2 ^ 64 - 1))
  where
    at : (word ≡ 2 ^ 64 - 1) ⊎ (word ≢ 2 ^ 64 - 1) → full_bit word ≡ 0
    at (inl e) = let one : bit_at word i ≡ 1 = rw e (bit_at_ones 64 i lt) in absurd (omega arith)
    at (inr ne) = full_bit-other word ne

-- a word whose bit in the second row is 0 is not full
not_full : (word : ℕ) → full_bit word ≡ 0 → word ≢ 2 ^ 64 - 1
not_full word clear e = let one : full_bit word ≡ 1 = rw e refl in omega arith

-- and one whose bit is 1 is
is_full : (word : ℕ) → full_bit word ≡ 1 → word ≡ 2 ^ 64 - 1
is_full word set = at (cases_eq word (2 ^ 64 - 1))
  where
    at : (word ≡ 2 ^ 64 - 1) ⊎ (word ≢ 2 ^ 64 - 1) → word ≡ 2 ^ 64 - 1
    at (inl e) = e
    at (inr ne) = let none = full_bit-other word ne in absurd (omega arith)

-- the lowest 0 of a word that is not full
pub bit_of-lowest : (row : List ℕ) (j word ones : ℕ) → slice_index row j ≡ word → word < 2 ^ 64 → word ≢ 2 ^ 64 - 1 → ones ≡ trailing_ones w64 word → bit_of row (64 * j + ones) ≡ 0
bit_of-lowest row j word ones here fits room is =
    let lowest = bit_at-trailing_ones w64 word (omega arith) in
    rw (is, bit_of-position row j (trailing_ones w64 word) lowest.0, here) lowest.1

-- full words have no 0
pub bit_of-full : (row : List ℕ) (j : ℕ) → ((i : ℕ) → i < j → slice_index row i ≡ 2 ^ 64 - 1) → (k : ℕ) → k < 64 * j → bit_of row k ≡ 1
bit_of-full row j full k below =
    rw (full (k / 64) (omega arith)) (bit_at_ones 64 (k % 64) (omega arith))

-- below the lowest 0 of the first word that is not full, each bit is 1
pub bit_of-below : (row : List ℕ) (j word ones : ℕ) → slice_index row j ≡ word → word < 2 ^ 64 → word ≢ 2 ^ 64 - 1 → ones ≡ trailing_ones w64 word
    → ((i : ℕ) → i < j → slice_index row i ≡ 2 ^ 64 - 1) → (k : ℕ) → k < 64 * j + ones → bit_of row k ≡ 1
bit_of-below row j word ones here fits room is full k below = at (cases_lt k (64 * j))
  where
    lowest : (i : ℕ) → i < trailing_ones w64 word → bit_at word i ≡ 1
    lowest = (bit_at-trailing_ones w64 word (omega arith)).2

    few : trailing_ones w64 word < 64
    few = (bit_at-trailing_ones w64 word (omega arith)).0

    at : (k < 64 * j) ⊎ (64 * j ≤ k) → bit_of row k ≡ 1
    at (inl before) = bit_of-full row j full k before
    at (inr after) =
        let position : k ≡ 64 * j + (k - 64 * j) = omega arith in
        let low : k - 64 * j < trailing_ones w64 word = omega arith in
        let within : k - 64 * j < 64 = omega (arith, few) in
        rw position (rw (bit_of-position row j (k - 64 * j) within, here) (lowest (k - 64 * j) low))

-- the two rows after a bit of the first was written, where the second has the bit of that word
pub AreTwoRows-write : (words full new above : List ℕ) (word bit : ℕ) → AreTwoRows words full → length new ≡ length words → length above ≡ length full
    → ((j : ℕ) → j ≢ word → slice_index new j ≡ slice_index words j) → bit ≡ full_bit (slice_index new word)
    → ((k : ℕ) → bit_of above k ≡ (if k == word then bit else bit_of full k)) → AreTwoRows new above
AreTwoRows-write words full new above word bit was longer wider others here bits =
    record {
      told = λ j. at j (cases_eq j word);
      above = omega (arith, was.above);
      few = omega (arith, was.few);
      few_above = omega (arith, was.few_above);
    }
  where
    at : (j : ℕ) → (j ≡ word) ⊎ (j ≢ word) → bit_of above j ≡ full_bit (slice_index new j)
    at j (inl e) = bits j ∙ rw (eq-eqb j word e, e) here
    at j (inr ne) = bits j ∙ rw (ne_eqb j word ne, others j ne) (was.told j)

-- a word that was not full has a 0 in the second row already
pub bit_of-clear : (words full : List ℕ) (berth : ℕ) → AreTwoRows words full → bit_of words berth ≡ 0
    → (k : ℕ) → bit_of full k ≡ (if k == berth / 64 then 0 else bit_of full k)
bit_of-clear words full berth was free k = at (cases_eq k (berth / 64))
  where
    at : (k ≡ berth / 64) ⊎ (k ≢ berth / 64) → bit_of full k ≡ (if k == berth / 64 then 0 else bit_of full k)
    at (inl e) =
        rw (eq-eqb k (berth / 64) e, e) (was.told (berth / 64) ∙ full_bit-clear (slice_index words (berth / 64)) (berth % 64) (omega arith) free)
    at (inr ne) = rw (ne_eqb k (berth / 64) ne) refl

-- more words of 0, where the second row has a bit for each
pub AreTwoRows-more : (words full new above : List ℕ) (word : ℕ) → AreTwoRows words full → word < 512
    → ((j : ℕ) → slice_index new j ≡ slice_index words j) → ((j : ℕ) → slice_index above j ≡ slice_index full j)
    → length new ≤ max (length words) (word + 1) → word < 64 * length above → length full ≤ length above → length above ≤ max (length full) (word / 64 + 1)
    → AreTwoRows new above
AreTwoRows-more words full new above word was low same same_above longer covered wider few_above =
    record {
      told = λ j. rw (same_above (j / 64), same j) (was.told j);
      above = omega (arith, was.above);
      few = omega (arith, was.few);
      few_above = omega (arith, was.few_above);
    }

-- where the second row has a 0, the first has a word that is not full
pub room_in : (words full : List ℕ) (word : ℕ) → AreTwoRows words full → bit_of full word ≡ 0 → slice_index words word ≢ 2 ^ 64 - 1
room_in words full word was clear = not_full (slice_index words word) (sym (was.told word) ∙ clear)

-- and where it has a 1, one that is
pub full_below : (words full : List ℕ) (word : ℕ) → AreTwoRows words full → ((k : ℕ) → k < word → bit_of full k ≡ 1)
    → (i : ℕ) → i < word → slice_index words i ≡ 2 ^ 64 - 1
full_below words full word was lowest i below = is_full (slice_index words i) (sym (was.told i) ∙ lowest i below)

-- the second row has a word for each 64 words of the first, the next one too
pub word_above : (words full : List ℕ) (word : ℕ) → AreTwoRows words full → word ≤ length words → word / 64 ≤ length full
word_above words full word was next = omega (arith, was.above)

-- more words of 0 in the second row
pub AreTwoRows-above : (words full above : List ℕ) (word : ℕ) → AreTwoRows words full → word < 512
    → ((j : ℕ) → slice_index above j ≡ slice_index full j) → length full ≤ length above → length above ≤ max (length full) (word / 64 + 1) → AreTwoRows words above
AreTwoRows-above words full above word was low same wider few_above =
    record {
      told = λ j. rw (same (j / 64)) (was.told j);
      above = omega (arith, was.above);
      few = was.few;
      few_above = omega (arith, was.few_above);
    }

-- a berth's word is one of the first 512
pub berth_word : (berth words : ℕ) → berth < 32768 → (berth / 64 < 512) × (berth / 64 / 64 < words → berth / 64 < 64 * words)
berth_word berth words low = (omega arith, λ covered. omega arith)
