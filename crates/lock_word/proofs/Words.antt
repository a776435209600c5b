-- Words and their locks.
use Rattle.std.specs.Prelude.{◌≡◌, ℕ, ◌+◌, ◌-◌, ◌*◌, ◌/◌, ◌%◌, ◌<◌, ◌≤◌, ◌^◌, ◌⊎◌, if◌then◌else◌, nat_lt, true, false}
use Rattle.std.proofs.Common.{arith, refl, inl, inr}
use Rattle.std.proofs.lemmas.Bool.{cases_lt, cond_both, ltb-true, ltb-false}
use Rattle.lock_word.specs.declared.Lock.{Lock}
use Rattle.lock_word.specs.declared.Lock.TheVariants.{Free, Thin, Fat}
use Rattle.lock_word.specs.declared.Split.{Split}
use Rattle.lock_word.specs.declared.Split.TheVariants.{Wide, Deep}
use Rattle.lock_word.specs.Layout.{greatest_index, greatest_count, unit_of, word_of, lock_of, low_of, with_lock, Fits, IsMalformed}

-- no split has more than these
pub greatest_index-bound : (s : Split) → greatest_index s ≤ 32767
greatest_index-bound Wide = omega arith
greatest_index-bound Deep = omega arith

pub greatest_count-bound : (s : Split) → greatest_count s ≤ 4095
greatest_count-bound Wide = omega arith
greatest_count-bound Deep = omega arith

thin_index : (s : Split) (i c low : ℕ) → c ≤ greatest_count s → low < 256 → (i * unit_of s + c * 256 + low) / unit_of s ≡ i
thin_index Wide i c low hc hl = omega arith
thin_index Deep i c low hc hl = omega arith

thin_count : (s : Split) (i c low : ℕ) → c ≤ greatest_count s → low < 256 → (i * unit_of s + c * 256 + low) / 256 % (greatest_count s + 1) ≡ c
thin_count Wide i c low hc hl = omega arith
thin_count Deep i c low hc hl = omega arith

thin_below : (s : Split) (i c low : ℕ) → i ≤ greatest_index s → c ≤ greatest_count s → low < 256 → nat_lt (i * unit_of s + c * 256 + low) 2147483648 ≡ true
thin_below Wide i c low h hc hl = grind arith
thin_below Deep i c low h hc hl = grind arith

thin_above : (s : Split) (i c low : ℕ) → 1 ≤ i → nat_lt (i * unit_of s + c * 256 + low) (unit_of s) ≡ false
thin_above Wide i c low h = grind arith
thin_above Deep i c low h = grind arith

thin : (s : Split) (i c low : ℕ) → 1 ≤ i → i ≤ greatest_index s → c ≤ greatest_count s → low < 256 → lock_of s (i * unit_of s + c * 256 + low) ≡ Thin i c
thin s i c low h1 h2 hc hl =
    rw (thin_below s i c low h2 hc hl, thin_above s i c low h1, thin_index s i c low hc hl, thin_count s i c low hc hl) refl

fat : (s : Split) (m low : ℕ) → m ≤ 8388607 → low < 256 → lock_of s (2147483648 + m * 256 + low) ≡ Fat m
fat s m low hm hl =
    let above : nat_lt (2147483648 + m * 256 + low) 2147483648 ≡ false = grind arith in
    let number : (2147483648 + m * 256 + low - 2147483648) / 256 ≡ m = omega arith in
    rw (above, number) refl

pub free : (s : Split) (low : ℕ) → low < 256 → lock_of s low ≡ Free
free Wide low h = grind arith
free Deep low h = grind arith

-- a lock is read back from its word
pub lock_of-word_of : (s : Split) (l : Lock) (low : ℕ) → Fits s l → low < 256 → lock_of s (word_of s l low) ≡ l
lock_of-word_of s Free low f h = free s low h
lock_of-word_of s (Thin i c) low f h = thin s i c low f.0 f.1 f.2 h
lock_of-word_of s (Fat m) low f h = fat s m low f h

-- and so is the low byte
pub low_of-word_of : (s : Split) (l : Lock) (low : ℕ) → low < 256 → low_of (word_of s l low) ≡ low
low_of-word_of s Free low h = omega arith
low_of-word_of Wide (Thin i c) low h = omega arith
low_of-word_of Deep (Thin i c) low h = omega arith
low_of-word_of s (Fat m) low h = omega arith

-- the word of a lock is not malformed
pub formed-word_of : (s : Split) (l : Lock) (low : ℕ) → Fits s l → low < 256 → IsMalformed s (word_of s l low) → ⊥
formed-word_of s Free low f h bad = omega arith
formed-word_of Wide (Thin i c) low f h bad = omega arith
formed-word_of Deep (Thin i c) low f h bad = omega arith
formed-word_of Wide (Fat m) low f h bad = omega arith
formed-word_of Deep (Fat m) low f h bad = omega arith

pub read_back : (s : Split) (l : Lock) (low : ℕ) → Fits s l → low < 256
    → (lock_of s (word_of s l low) ≡ l) × (low_of (word_of s l low) ≡ low) × (IsMalformed s (word_of s l low) → ⊥)
read_back s l low f h = (lock_of-word_of s l low f h, low_of-word_of s l low h, formed-word_of s l low f h)

-- another lock leaves the low byte
pub low_kept : (s : Split) (w : ℕ) (l : Lock) → low_of (with_lock s w l) ≡ low_of w
low_kept s w l = low_of-word_of s l (low_of w) (omega arith)

-- a word below the first thin one is not malformed where it is a low byte
small : (s : Split) (w : ℕ) → w < unit_of s → (IsMalformed s w → ⊥) → (w < 256) ⊎ (256 ≤ w) → low_of w ≡ w
small s w below formed (inl low) = omega arith
small s w below formed (inr high) = absurd (formed (below, high))

abbrev Spelled : Split → ℕ → Lock → Type 0
Spelled s w l = Fits s l × (word_of s l (low_of w) ≡ w)

spelled_thin : (s : Split) (w : ℕ) → w < 2147483648 → unit_of s ≤ w → Spelled s w (Thin (w / unit_of s) (w / 256 % (greatest_count s + 1)))
spelled_thin Wide w below above = ((omega arith, omega arith, omega arith), omega arith)
spelled_thin Deep w below above = ((omega arith, omega arith, omega arith), omega arith)

-- a word that is not malformed is spelled in one way
pub one_spelling : (s : Split) (w : ℕ) → w < 2 ^ 32 → (IsMalformed s w → ⊥) → Fits s (lock_of s w) × (word_of s (lock_of s w) (low_of w) ≡ w)
one_spelling s w h formed =
    cond_both (nat_lt w 2147483648) (if nat_lt w (unit_of s) then Free else Thin (w / unit_of s) (w / 256 % (greatest_count s + 1))) (Fat ((w - 2147483648) / 256)) (Spelled s w)
    (λ below.
    cond_both (nat_lt w (unit_of s)) Free (Thin (w / unit_of s) (w / 256 % (greatest_count s + 1))) (Spelled s w)
    (λ low. (tt, small s w (ltb-true w (unit_of s) low) formed (cases_lt w 256)))
    (λ high. spelled_thin s w (ltb-true w 2147483648 below) (ltb-false w (unit_of s) high)))
    (λ above. let a : 2147483648 ≤ w = ltb-false w 2147483648 above in (omega arith, omega arith))
