-- The layout of a header word: 24 bits of lock above 8 bits that belong to others. A split says how a thin lock
-- divides its 23 bits between the index of its owner and the count of its holds, less one.
--     lock     bit 31   Wide: bits 30..16   bits 15..8     Deep: bits 30..20   bits 19..8     bits 7..0
--     Free     0        0                   0              0                   0              kept
--     Thin     0        1 to 32,767         0 to 255       1 to 2,047          0 to 4,095     kept
--     Fat      1        the number of the fat monitor, in both                                kept
use Rattle.std.specs.Prelude.{◌-◌, if◌then◌else◌, nat_lt, ℕ, ◌+◌, ◌*◌, ◌/◌, ◌%◌, ◌<◌, ◌≤◌}
use Rattle.lock_word.specs.declared.Lock.{Lock}
use Rattle.lock_word.specs.declared.Lock.TheVariants.{Free, Thin, Fat}
use Rattle.lock_word.specs.declared.Split.{Split}
use Rattle.lock_word.specs.declared.Split.TheVariants.{Wide, Deep}

-- the greatest index of a thread, and the greatest count of a thin lock
abbrev pub greatest_index : Split → ℕ
greatest_index Wide = 32767
greatest_index Deep = 2047

abbrev pub greatest_count : Split → ℕ
greatest_count Wide = 255
greatest_count Deep = 4095

-- what index 1 adds to a word
abbrev pub unit_of : Split → ℕ
unit_of Wide = 65536
unit_of Deep = 1048576

-- the fields of a lock fit a word
abbrev pub Fits : Split → Lock → Type 0
Fits s Free = Unit {0}
Fits s (Thin index count) = (1 ≤ index) × (index ≤ greatest_index s) × (count ≤ greatest_count s)
Fits s (Fat monitor) = monitor ≤ 8388607

-- the word with this lock above this low byte
abbrev pub word_of : Split → Lock → ℕ → ℕ
word_of s Free low = low
word_of s (Thin index count) low = index * unit_of s + count * 256 + low
word_of s (Fat monitor) low = 2147483648 + monitor * 256 + low

-- index 0 with a count other than 0: no lock has such a word
abbrev pub IsMalformed : Split → ℕ → Type 0
IsMalformed s word = (word < unit_of s) × (256 ≤ word)

-- the lock that a word shows, where it is not malformed
abbrev pub lock_of : Split → ℕ → Lock
lock_of s word =
    if nat_lt word 2147483648
    then (if nat_lt word (unit_of s) then Free else Thin (word / unit_of s) (word / 256 % (greatest_count s + 1)))
    else Fat ((word - 2147483648) / 256)

-- the bits of a word that belong to others
abbrev pub low_of : ℕ → ℕ
low_of word = word % 256

-- the word with this lock, and the low byte of the word that was there
abbrev pub with_lock : Split → ℕ → Lock → ℕ
with_lock s word l = word_of s l (low_of word)

-- how often a thin lock is held, less one; 0 for another lock
abbrev pub count_of : Lock → ℕ
count_of Free = 0
count_of (Thin index count) = count
count_of (Fat monitor) = 0
