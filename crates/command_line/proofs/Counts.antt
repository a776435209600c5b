-- The number that a text writes, as `parse` reads it.
use Rattle.std.proofs.Common.{◌≡◌, ◌<◌, ◌≤◌, ◌^◌, ℕ, Bool, true, false, List, Some, None, Result, Ok, Err, refl, sym, arith, if◌then◌else◌}
use Rattle.std.specs.Result.{result_ok}
use Rattle.std.specs.Str.Parse.{ParsesUnsigned, digits_value, without_leading_plus}
use Rattle.clap.specs.ValueTests.{is_unsigned_in}
use Rattle.clap.specs.declared.builder.value_parser.ValueParser.TheVariants.{Unsigned}
use Rattle.clap.proofs.ValueTestLemmas.{Accepts-accepts, accepts-Accepts}
use Rattle.command_line.specs.Orders.{count_of}

refused : (b : Bool) (n : ℕ) → (b ≡ true → ⊥) → (if b then Some n else None) ≡ None
refused true n never = absurd (never refl)
refused false n never = refl

pub parsed : {E : Type 0} (text : List ℕ) (r : Result ℕ E) → ParsesUnsigned 32 10 text r → result_ok r ≡ count_of text
parsed text (Ok x) h =
    let small : digits_value 10 (without_leading_plus text) < 2 ^ 32 = h.0.1 in
    let fits : digits_value 10 (without_leading_plus text) < 2 ^ 64 = omega (arith, small) in
    let above : 0 ≤ digits_value 10 (without_leading_plus text) = omega arith in
    let below : digits_value 10 (without_leading_plus text) ≤ 4294967295 = omega (arith, small) in
    let is : is_unsigned_in 0 4294967295 text ≡ true = Accepts-accepts false (Unsigned 0 4294967295) text (h.0.0, fits, above, below) in
    rw (is, h.1) refl
parsed text (Err e) h =
    sym (refused (is_unsigned_in 0 4294967295 text) (digits_value 10 (without_leading_plus text)) (λ is.
    let a = accepts-Accepts false (Unsigned 0 4294967295) text is in
    let below : digits_value 10 (without_leading_plus text) ≤ 4294967295 = a.3 in
    let small : digits_value 10 (without_leading_plus text) < 2 ^ 32 = omega (arith, below) in
    h (a.0, small)))
