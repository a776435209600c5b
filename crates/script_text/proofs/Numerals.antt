-- Numbers as words.
use Rattle.std.proofs.Common.{◌≡◌, ◌≢◌, ℕ, ◌^◌, ◌<◌, ◌≤◌, List, [], ◌∷◌, length, get_or, true, not, ◌||◌, ◌==◌, eqb, Some, Result, Ok, Err, refl, sym, subst, arith, rules, inl, inr, ◌⊎◌}
use Rattle.std.specs.List.{list_all}
use Rattle.std.specs.Char.{is_ascii_digit}
use Rattle.std.specs.Fmt.{decimal}
use Rattle.std.specs.Int.{IsInRange}
use Rattle.std.specs.Result.{OkIff, result_ok}
use Rattle.std.specs.Str.Parse.{digits_value, ParsesUnsigned}
use Rattle.std.proofs.lemmas.Bool.{and_parts, and_from, lt-ltb, le-ltb, ltb-true, eqb-true, eq-eqb, ne_eqb, or_cases, or_left, or_right, not-true, not_from_false, cases_lt, cases_eq}
use Rattle.std.proofs.lemmas.Option.{cond_some}
use Rattle.std.proofs.lemmas.Str.Parse.{IsNumeralModel, numerals_by_value, parse_plain, digit_from_value}
use Rattle.std.proofs.lemmas.Fmt.{decimal-digits_value, digits_decimal, digits_value-decimal, decimal_nonempty, first_decimal, decimal_digit}
use Rattle.script_text.specs.Words.{is_numeral, number_from}

pub own : IsNumeralModel (λ ds. list_all is_ascii_digit ds ≡ true) (digits_value 10)
own = numerals_by_value _ (search rules)

-- the first byte is no sign
no_sign : (c : ℕ) (cs : List ℕ) → list_all is_ascii_digit (c ∷ cs) ≡ true → c ≢ 43
no_sign c cs h e =
    let digits = own.to (c ∷ cs) h in
    let bound : IsInRange 48 57 c = digit_from_value c digits.0 in
    omega (arith, bound, e)

past_it : (n : ℕ) → (n < 2 ^ 64 → ⊥) → (n < 2 ^ 64) ⊎ (2 ^ 64 ≤ n) → 2 ^ 64 ≤ n
past_it n never (inl lt) = absurd (never lt)
past_it n never (inr le) = le

parsed_by : {E : Type 0} (word : List ℕ) (r : Result ℕ E) → is_numeral word ≡ true → 0 < length word → list_all is_ascii_digit word ≡ true
    → OkIff r ((list_all is_ascii_digit word ≡ true) × (0 < length word) × (digits_value 10 word < 2 ^ 64)) (digits_value 10 word) → result_ok r ≡ number_from word
parsed_by word (Ok x) is long all h = rw (is, lt-ltb (digits_value 10 word) (2 ^ 64) h.0.2, h.1) refl
parsed_by word (Err e) is long all h =
    let past : 2 ^ 64 ≤ digits_value 10 word = past_it (digits_value 10 word) (λ lt. h (all, long, lt)) (cases_lt (digits_value 10 word) (2 ^ 64)) in
    rw (is, le-ltb (digits_value 10 word) (2 ^ 64) past) refl

pub parsed : {E : Type 0} (word : List ℕ) (r : Result ℕ E) → is_numeral word ≡ true → ParsesUnsigned 64 10 word r → result_ok r ≡ number_from word
parsed [] r is p = absurd (cc)
parsed (c ∷ cs) r is p =
    let long : 0 < length (c ∷ cs) = omega arith in
    let all : list_all is_ascii_digit (c ∷ cs) ≡ true = (and_parts _ _ is).1 in
    let ne : c ≢ 43 = no_sign c cs all in
    parsed_by (c ∷ cs) r is long all (parse_plain own 64 (c ∷ cs) r p ne)

only_zero : (c : ℕ) (cs : List ℕ) → c ≡ 48 → (eqb (length cs) 0 ≡ true) ⊎ (not (eqb c 48) ≡ true) → length (c ∷ cs) ≡ 1
only_zero c cs e (inl one) = let none : length cs ≡ 0 = eqb-true _ _ one in omega arith
only_zero c cs e (inr other) = let ne = not-true _ other in let is = eq-eqb c 48 e in absurd (cc)

pub number_takes : (word : List ℕ) (n : ℕ) → number_from word ≡ Some n → (word ≡ decimal n) × (n < 2 ^ 64)
number_takes [] n e = absurd (cc)
number_takes (c ∷ cs) n e =
    let found = cond_some _ _ _ e in
    let tests = and_parts (is_numeral (c ∷ cs)) _ found.0 in
    let form = and_parts _ _ tests.0 in
    let small : digits_value 10 (c ∷ cs) < 2 ^ 64 = ltb-true _ _ tests.1 in
    let written = decimal-digits_value own (c ∷ cs) form.1 (omega arith) (λ zero_first. only_zero c cs zero_first (or_cases _ _ form.0)) small in
    (subst (λ (m : ℕ). (c ∷ cs) ≡ decimal m) found.1 (sym written), subst (λ (m : ℕ). m < 2 ^ 64) found.1 small)

numeral_by : (n : ℕ) (ds : List ℕ) → 0 < length ds → list_all is_ascii_digit ds ≡ true → (0 < n → 48 < get_or ds 0 0) → (n ≡ 0 → length ds ≡ 1) → is_numeral ds ≡ true
numeral_by n [] long all first none = absurd (omega arith)
numeral_by n (c ∷ cs) long all first none = and_from _ _ (by_zero (cases_eq n 0)) all
  where
    by_zero : (n ≡ 0) ⊎ (n ≡ 0 → ⊥) → (length cs == 0 || not (c == 48)) ≡ true
    by_zero (inl e) = let one : length cs ≡ 0 = let l = none e in omega arith in or_left _ _ (eq-eqb _ _ one)
    by_zero (inr ne) = let above : 48 < c = first (omega arith) in or_right _ _ (not_from_false _ (ne_eqb c 48 (λ e. omega arith)))

one_digit : (n : ℕ) → n ≡ 0 → length (decimal n) ≡ 1
one_digit n e = let small : n < 10 = omega arith in rw (decimal_digit n small) refl

is_numeral_decimal : (n : ℕ) → n < 2 ^ 64 → is_numeral (decimal n) ≡ true
is_numeral_decimal n small = numeral_by n (decimal n) (decimal_nonempty n small) (digits_decimal own n small) (λ above. first_decimal n above small) (one_digit n)

pub number_again : (n : ℕ) → n < 2 ^ 64 → number_from (decimal n) ≡ Some n
number_again n small =
    let value : digits_value 10 (decimal n) ≡ n = digits_value-decimal own n small in
    rw (is_numeral_decimal n small, value, lt-ltb n (2 ^ 64) small) refl
