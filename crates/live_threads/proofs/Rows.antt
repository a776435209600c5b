-- The passes of a service that was just opened.
use Rattle.std.specs.Prelude.{◌≡◌, ℕ, zero, suc, List, [], ◌∷◌, length, map}
use Rattle.std.specs.List.{All}
use Rattle.std.proofs.Common.{refl, sym, ◌∙◌, ap, subst}
use Rattle.std.proofs.lemmas.List.Elements.{All-nil, All-cons}
use Rattle.header_words.specs.Passes.{Opening, PassValue, new_pass, new_passes}
use Rattle.live_turns.specs.Ways.{Holding, PassState, new_holding, new_state}
use Rattle.live_threads.specs.Calls.{IsAtRest}

length-states : (z : Opening) (i n : ℕ) → length (map new_state (new_passes z i n)) ≡ n
length-states z i zero = refl
length-states z i (suc n) = ap suc (length-states z (suc i) n)

rest-states : (z : Opening) (i n : ℕ) → All IsAtRest (map new_state (new_passes z i n))
rest-states z i zero = All-nil IsAtRest
rest-states z i (suc n) = All-cons IsAtRest (new_state (new_pass z i)) (map new_state (new_passes z (suc i) n)) (refl, refl) (rest-states z (suc i) n)

held-states : (ps : List PassValue) → map (λ (p : PassState). p.holding) (map new_state ps) ≡ map new_holding ps
held-states [] = refl
held-states (p ∷ ps) = ap (λ hs. new_holding p ∷ hs) (held-states ps)

-- there are as many as were asked for, each at rest, and each has done nothing
pub length_new : (z : Opening) (n : ℕ) (xs : List PassState) → xs ≡ map new_state (new_passes z 1 n) → length xs ≡ n
length_new z n xs e = ap length e ∙ length-states z 1 n

pub rest_new : (z : Opening) (n : ℕ) (xs : List PassState) → xs ≡ map new_state (new_passes z 1 n) → All IsAtRest xs
rest_new z n xs e = subst (All IsAtRest) (sym e) (rest-states z 1 n)

pub held_new : (z : Opening) (n : ℕ) (xs : List PassState) (ys : List Holding) → xs ≡ map new_state (new_passes z 1 n)
    → ys ≡ map (λ (p : PassState). p.holding) xs → ys ≡ map new_holding (new_passes z 1 n)
held_new z n xs ys e d = d ∙ (ap (map (λ (p : PassState). p.holding)) e ∙ held-states (new_passes z 1 n))
