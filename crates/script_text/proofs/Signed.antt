-- Signed numbers as words.
use Rattle.std.proofs.Common.{◌≡◌, ℕ, suc, ◌-◌, ◌^◌, ◌<◌, ◌≤◌, List, [], ◌∷◌, true, false, ◌&&◌, ◌==◌, nat_lt, nat_le, Some, refl, subst, arith, decimal}
use Rattle.std.specs.Prelude.{ℤ, pos, negsuc}
use Rattle.std.specs.List.{list_all}
use Rattle.std.specs.Char.{is_ascii_digit}
use Rattle.std.specs.Fmt.{signed_decimal}
use Rattle.std.specs.Int.{IsInRange}
use Rattle.std.proofs.lemmas.Bool.{and_parts, and_from, ltb-true, lt-ltb, leb-true, le-leb, eqb-true, ne_eqb}
use Rattle.std.proofs.lemmas.Option.{cond_some}
use Rattle.std.proofs.lemmas.Str.Parse.{digit_from_value}
use Rattle.std.proofs.lemmas.Fmt.{digits_decimal}
use Rattle.script_text.specs.Words.{IsBelow, is_below, number_from, signed_from, nanos_from}
use Rattle.script_text.proofs.Numerals.{own, number_takes, number_again}
use Rattle.script_text.proofs.Plain.{is_plain, decimal_plain}
use Rattle.script_text.proofs.Choices.{by_cond, bound, none_some}

below_said : (c : ℕ) (cs : List ℕ) (n : ℕ) → c ≡ 45 → cs ≡ decimal n → 0 < n → n ≤ 2 ^ 63 → ((c ∷ cs) ≡ signed_decimal (negsuc (n - 1))) × IsBelow (2 ^ 63) (negsuc (n - 1))
below_said c cs n sign digits above small =
    let whole : suc (n - 1) ≡ n = omega (arith, above) in
    (rw (sign, digits, whole) refl, omega (arith, above, small))

pub signed_takes : (word : List ℕ) (z : ℤ) → signed_from word ≡ Some z → (word ≡ signed_decimal z) × IsBelow (2 ^ 63) z
signed_takes [] z e = none_some z _ e
signed_takes (c ∷ cs) z e =
    by_cond (c == 45) _ _ _ _ e
    (λ sign s. let n = bound _ (number_from cs) z s in
    let t = cond_some (nat_lt 0 n.0 && nat_le n.0 (2 ^ 63)) (negsuc (n.0 - 1)) z n.2 in
    let p = and_parts (nat_lt 0 n.0) (nat_le n.0 (2 ^ 63)) t.0 in
    subst (λ (z : ℤ). ((c ∷ cs) ≡ signed_decimal z) × IsBelow (2 ^ 63) z) t.1
    (below_said c cs n.0 (eqb-true c 45 sign) (number_takes cs n.0 n.1).0 (ltb-true 0 n.0 p.0) (leb-true n.0 (2 ^ 63) p.1)))
    (λ _ s. let n = bound _ (number_from (c ∷ cs)) z s in
    let t = cond_some (nat_lt n.0 (2 ^ 63)) (pos n.0) z n.2 in
    subst (λ (z : ℤ). ((c ∷ cs) ≡ signed_decimal z) × IsBelow (2 ^ 63) z) t.1 ((number_takes (c ∷ cs) n.0 n.1).0, ltb-true n.0 (2 ^ 63) t.0))

by_digits : (ds : List ℕ) (n : ℕ) → list_all is_ascii_digit ds ≡ true → number_from ds ≡ Some n → n < 2 ^ 63 → signed_from ds ≡ Some (pos n)
by_digits [] n digits e small = none_some n _ e
by_digits (c ∷ cs) n digits e small =
    let first : IsInRange 48 57 c = digit_from_value c (own.to (c ∷ cs) digits).0 in
    let plain : (c == 45) ≡ false = ne_eqb c 45 (λ same. omega (arith, first, same)) in
    rw (plain, e, lt-ltb n (2 ^ 63) small) refl

pub signed_again : (z : ℤ) → IsBelow (2 ^ 63) z → signed_from (signed_decimal z) ≡ Some z
signed_again (pos n) small =
    let wide : n < 2 ^ 64 = omega (arith, small) in
    by_digits (decimal n) n (digits_decimal own n wide) (number_again n wide) small
signed_again (negsuc m) small =
    let wide : suc m < 2 ^ 64 = omega (arith, small) in
    let above : 0 < suc m = omega arith in
    let within : suc m ≤ 2 ^ 63 = omega (arith, small) in
    let back : suc m - 1 ≡ m = omega arith in
    rw (number_again (suc m) wide, lt-ltb 0 (suc m) above, le-leb (suc m) (2 ^ 63) within, back) refl

below_takes : (limit : ℕ) (z : ℤ) → is_below limit z ≡ true → IsBelow limit z
below_takes limit (pos n) is = ltb-true n limit is
below_takes limit (negsuc n) is = ltb-true n limit is

below_again : (limit : ℕ) (z : ℤ) → IsBelow limit z → is_below limit z ≡ true
below_again limit (pos n) is = lt-ltb n limit is
below_again limit (negsuc n) is = lt-ltb n limit is

wider : (z : ℤ) → IsBelow (2 ^ 31) z → IsBelow (2 ^ 63) z
wider (pos n) small = omega (arith, small)
wider (negsuc n) small = omega (arith, small)

pub nanos_takes : (word : List ℕ) (z : ℤ) → nanos_from word ≡ Some z → (word ≡ signed_decimal z) × IsBelow (2 ^ 31) z
nanos_takes word z e =
    let s = bound _ (signed_from word) z e in
    let t = cond_some (is_below (2 ^ 31) s.0) s.0 z s.2 in
    subst (λ (z : ℤ). (word ≡ signed_decimal z) × IsBelow (2 ^ 31) z) t.1 ((signed_takes word s.0 s.1).0, below_takes (2 ^ 31) s.0 t.0)

pub nanos_again : (z : ℤ) → IsBelow (2 ^ 31) z → nanos_from (signed_decimal z) ≡ Some z
nanos_again z small = rw (signed_again z (wider z small), below_again (2 ^ 31) z small) refl

pub signed_plain : (z : ℤ) → IsBelow (2 ^ 63) z → is_plain (signed_decimal z) ≡ true
signed_plain (pos n) small = decimal_plain n (omega (arith, small))
signed_plain (negsuc n) small = and_from _ _ refl (decimal_plain (suc n) (omega (arith, small)))

pub nanos_plain : (z : ℤ) → IsBelow (2 ^ 31) z → is_plain (signed_decimal z) ≡ true
nanos_plain z small = signed_plain z (wider z small)
