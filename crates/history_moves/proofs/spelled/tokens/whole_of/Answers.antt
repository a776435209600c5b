use Rattle.std.proofs.Common.{◌≡◌, ℕ, List, [], ◌∷◌, ◌++◌, length, decimal, append-nil, refl, sym, ap, ◌∙◌, arith, rules}
use Rattle.serde_json.specs.Read.{number_of}
use Rattle.serde_json.proofs.Numbers.{number_of-decimal}
use Rattle.history_moves.proofs.spelled.tokens.whole_of.Goals as goal

empty : (l : List ℕ) → length l ≡ 0 → l ≡ []
empty [] h = refl
empty (x ∷ xs) h = absurd (omega (arith, h))

pub returns-then-is_empty : goal.returns-then-is_empty
returns-then-is_empty c =
    let size : length c.in_ok-number.rest.now ≡ 0 = search rules in
    let text : c.args.text.now ≡ decimal c.in_ok-number.number = sym c.as_bytes.ensures.value ∙ c.in_ok-number.ensures.number ∙ ap (λ (l : List ℕ). decimal c.in_ok-number.number ++ l) (empty c.in_ok-number.rest.now size) ∙ append-nil _ in
    ap number_of text ∙ number_of-decimal c.in_ok-number.number c.in_ok-number.ensures.small
