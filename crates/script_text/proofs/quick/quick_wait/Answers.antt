use Rattle.std.proofs.Common.{◌≡◌, ◌∷◌, ◌++◌, ℕ, List, true, ap, ◌∙◌, sym, arith, rules, codes}
use Rattle.std.proofs.lemmas.Fmt.{decimal_digit}
use Rattle.std.proofs.lemmas.Slice.Eq.{bytes_eq-Decides}
use Rattle.script_text.specs.Words.{is_name}
use Rattle.script_text.proofs.quick.quick_wait.Goals as goal

pub returns-then-eq : goal.returns-then-eq
returns-then-eq c =
    let last : c.in_ok-object.rest.now ≡ codes "0 0" = (bytes_eq-Decides c.in_ok-object.rest.now c.as_slice.result.now).0 (sym c.eq.ensures ∙ c.if-eq.true) ∙ c.as_slice.ensures in
    let right : is_name c.in_ok-object.object ≡ true = search rules in
    record {
      text = rw (decimal_digit 0 (omega arith)) (ap (λ (bs : List ℕ). codes "wait " ++ bs) (c.in_ok-object.ensures ∙ ap (λ (bs : List ℕ). c.in_ok-object.object ++ 32 ∷ bs) last));
      fits = (right, omega arith, omega arith);
    }

pub returns : goal.returns
returns c = search rules
