-- What is written for a header word: eight upper-case hexadecimal digits.
use Rattle.std.specs.Prelude.{ℕ, ◌+◌, ◌/◌, ◌%◌, if◌then◌else◌, nat_lt, List, [], ◌∷◌}

-- a digit below 16, in ASCII
abbrev pub hex_digit : ℕ → ℕ
hex_digit d = if nat_lt d 10 then 48 + d else 55 + d

abbrev pub word_text : ℕ → List ℕ
word_text w =
    hex_digit (w / 268435456) ∷ hex_digit (w / 16777216 % 16) ∷ hex_digit (w / 1048576 % 16)
    ∷ hex_digit (w / 65536 % 16) ∷ hex_digit (w / 4096 % 16) ∷ hex_digit (w / 256 % 16)
    ∷ hex_digit (w / 16 % 16) ∷ hex_digit (w % 16) ∷ []
