-- Digits read one by one are the decimal text of their number.
use Rattle.std.proofs.Common.{◌≡◌, ℕ, ◌+◌, ◌*◌, ◌/◌, ◌%◌, ◌^◌, ◌<◌, ◌≤◌, List, [], ◌∷◌, ◌++◌, sym, ap, ◌∙◌, arith, decimal, append_assoc}
use Rattle.std.proofs.lemmas.Fmt.{decimal_digit, decimal_step}
use Rattle.std.proofs.lemmas.Nat.{div-mul-add, mod-mul-add}

pub first_digit : (all rest : List ℕ) (d : ℕ) → all ≡ (48 + d) ∷ rest → d < 10 → all ≡ decimal d ++ rest
first_digit all rest d e small = e ∙ ap (λ (l : List ℕ). l ++ rest) (sym (decimal_digit d small))

one_more : (n d : ℕ) → 0 < n → n * 10 + d < 2 ^ 64 → d < 10 → decimal (n * 10 + d) ≡ decimal n ++ ((48 + d) ∷ [])
one_more n d some room small =
    let large : 10 ≤ n * 10 + d = omega (arith, some) in
    let step : decimal (n * 10 + d) ≡ decimal ((n * 10 + d) / 10) ++ ((48 + (n * 10 + d) % 10) ∷ []) = decimal_step (n * 10 + d) large room in
    rw (div-mul-add n 10 d small, mod-mul-add n 10 d small) at step

pub next_digit : (all rest after : List ℕ) (n d m : ℕ) → all ≡ decimal n ++ rest → rest ≡ (48 + d) ∷ after → 0 < n → m ≡ n * 10 + d → m < 2 ^ 64 → d < 10 → all ≡ decimal m ++ after
next_digit all rest after n d m e f some longer room small =
    e ∙ ap (λ (l : List ℕ). decimal n ++ l) f ∙ sym (append_assoc (decimal n) ((48 + d) ∷ []) after)
    ∙ ap (λ (l : List ℕ). l ++ after) (sym (ap decimal longer ∙ one_more n d some (omega (arith, longer, room)) small))
