-- A row of words as a row of bits, and a second row that tells which words of the first are full.
use Rattle.std.specs.Prelude.{◌≡◌, ◌≢◌, ◌<◌, ℕ, ◌-◌, ◌*◌, ◌/◌, ◌%◌, ◌^◌, ◌≤◌, ◌==◌, List, length, slice_index}
use Rattle.std.specs.Prelude.{if◌then◌else◌}
use Rattle.std.specs.Int.{bit_at}

-- the bit at a position: past the last word it is 0
abbrev pub bit_of : List ℕ → ℕ → ℕ
bit_of row k = bit_at (slice_index row (k / 64)) (k % 64)

-- each bit stays
abbrev pub SameBits : List ℕ → List ℕ → Type 0
SameBits old new = (k : ℕ) → bit_of new k ≡ bit_of old k

-- the bit at a position is this one, and the others stay
abbrev pub SetsBit : List ℕ → List ℕ → ℕ → ℕ → Type 0
SetsBit old new position bit = (k : ℕ) → bit_of new k ≡ (if k == position then bit else bit_of old k)

-- each word but one stays
abbrev pub SameOtherWords : List ℕ → List ℕ → ℕ → Type 0
SameOtherWords old new j = (i : ℕ) → i ≢ j → slice_index new i ≡ slice_index old i

-- each bit below a position is 1
abbrev pub AreSetBelow : List ℕ → ℕ → Type 0
AreSetBelow row position = (k : ℕ) → k < position → bit_of row k ≡ 1

-- 1 for a word whose bits are all 1
abbrev pub full_bit : ℕ → ℕ
full_bit word = (if word == 2 ^ 64 - 1 then 1 else 0)

-- the second row has a bit for each word of the first, which is 1 where the word is full
pub record AreTwoRows (words full : List ℕ) : Type 0 where
  pub told : (j : ℕ) → bit_of full j ≡ full_bit (slice_index words j)
  pub above : length words ≤ 64 * length full
  pub few : length words ≤ 512
  pub few_above : length full ≤ 512
