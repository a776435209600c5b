-- Names, numbers and low bytes as words.
use Rattle.std.specs.Prelude.{◌<◌, ℤ, pos, negsuc, nat_le, ℕ, ◌+◌, ◌-◌, ◌*◌, ◌/◌, ◌%◌, ◌^◌, List, [], ◌∷◌, length, Bool}
use Rattle.std.specs.Prelude.{false, not, ◌&&◌, ◌||◌, ◌==◌, nat_lt, if◌then◌else◌, Option, None, Some, option_map}
use Rattle.std.specs.Prelude.{option_and_then}
use Rattle.std.specs.List.{list_all}
use Rattle.std.specs.Int.{is_in_range}
use Rattle.std.specs.Char.{is_ascii_digit}
use Rattle.std.specs.Str.Parse.{digits_value}
use Rattle.lock_word.specs.Names.{hex_digit}

abbrev pub is_name_byte : ℕ → Bool
is_name_byte c = is_in_range 97 122 c || is_in_range 48 57 c || c == 95

-- 1 to 32 bytes, the first a letter
abbrev pub is_name : List ℕ → Bool
is_name [] = false
is_name (c ∷ cs) = is_in_range 97 122 c && nat_lt (length cs) 32 && list_all is_name_byte cs

abbrev pub name_from : List ℕ → Option (List ℕ)
name_from word = if is_name word then Some word else None

-- digits, with no 0 before another
abbrev pub is_numeral : List ℕ → Bool
is_numeral [] = false
is_numeral (c ∷ cs) = (length cs == 0 || not (c == 48)) && list_all is_ascii_digit (c ∷ cs)

abbrev pub number_from : List ℕ → Option ℕ
number_from word =
    if is_numeral word && nat_lt (digits_value 10 word) (2 ^ 64) then Some (digits_value 10 word) else None

abbrev pub hex_from : ℕ → Option ℕ
hex_from c =
    if is_in_range 48 57 c then Some (c - 48)
    else (if is_in_range 65 70 c then Some (c - 55) else None)

-- a byte as two upper-case hexadecimal digits
abbrev pub low_text : ℕ → List ℕ
low_text n = hex_digit (n / 16) ∷ hex_digit (n % 16) ∷ []

abbrev pub low_from : List ℕ → Option ℕ
low_from [] = None
low_from (a ∷ []) = None
low_from (a ∷ b ∷ []) =
    option_and_then (λ high. option_map (λ low. high * 16 + low) (hex_from b)) (hex_from a)
low_from (a ∷ b ∷ c ∷ more) = None

-- a number with a `-` in front where it is below 0
abbrev pub signed_from : List ℕ → Option ℤ
signed_from [] = None
signed_from (c ∷ cs) =
    if c == 45
    then option_and_then (λ n. if nat_lt 0 n && nat_le n (2 ^ 63) then Some (negsuc (n - 1)) else None)
    (number_from cs)
    else option_and_then (λ n. if nat_lt n (2 ^ 63) then Some (pos n) else None) (number_from (c ∷ cs))

-- at least -limit, and below limit
abbrev pub IsBelow : ℕ → ℤ → Type 0
IsBelow limit (pos n) = n < limit
IsBelow limit (negsuc n) = n < limit

abbrev pub is_below : ℕ → ℤ → Bool
is_below limit (pos n) = nat_lt n limit
is_below limit (negsuc n) = nat_lt n limit

-- a signed number of 32 bits
abbrev pub nanos_from : List ℕ → Option ℤ
nanos_from word =
    option_and_then (λ z. if is_below (2 ^ 31) z then Some z else None) (signed_from word)
