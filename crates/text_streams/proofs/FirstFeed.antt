-- The first byte that is found is the one that `position` finds.
use Rattle.std.proofs.Common.{◌≡◌, ℕ, List, length, Bool, true, false, ◌==◌, nat_lt, cond, Option, None, Some, refl, sym, arith}
use Rattle.std.specs.List.{position, position_or_len}
use Rattle.std.proofs.lemmas.Bool.{lt-ltb}
use Rattle.std.proofs.lemmas.Bool.Decides.{nat_tests}
use Rattle.std.proofs.lemmas.List.Sums.{position_or_len_is}
use Rattle.memchr.specs.Find.{IsFirstByte, is_byte}

never : (b : Bool) → (b ≡ true → ⊥) → b ≡ false
never true h = absurd (h refl)
never false h = refl

not_below : (n : ℕ) → nat_lt n n ≡ false
not_below n = grind (arith, nat_tests)

at_place : (bytes : List ℕ) (k : ℕ) → position_or_len (is_byte 10) bytes ≡ k → (b : Bool) → nat_lt k (length bytes) ≡ b → position (is_byte 10) bytes ≡ cond b (Some k) None
at_place bytes k e b f = rw (e, f) refl

pub first_is_position : (bytes : List ℕ) (r : Option ℕ) → IsFirstByte (is_byte 10) bytes r → r ≡ position (λ b. b == 10) bytes
first_is_position bytes None first =
    let p = position_or_len_is (is_byte 10) bytes (length bytes) 0 (omega arith) (λ k below. never _ (first k (omega arith) below)) (λ above. absurd (omega (arith, above))) in
    sym (at_place bytes (length bytes) p false (not_below (length bytes)))
first_is_position bytes (Some k) first =
    let p = position_or_len_is (is_byte 10) bytes k 0 (omega (arith, first.0.high)) (λ j below. never _ (first.0.before j (omega arith) below)) (λ _. first.1) in
    sym (at_place bytes k p true (lt-ltb k (length bytes) first.0.high))
