-- The passes of an opening belong to it, and so do more of them.
use Rattle.std.proofs.Common.{◌≡◌, ◌∙◌, ℕ, zero, suc, ◌<◌, List, [], ◌∷◌, ◌++◌, map, refl, ap, arith, false}
use Rattle.std.proofs.lemmas.List.{append_assoc}
use Rattle.std.proofs.lemmas.List.Elements.{All-append}
use Rattle.std.specs.List.{All}
use Rattle.header_words.specs.Passes.{Opening, new_passes}
use Rattle.live_turns.specs.Ways.{PassState, Belongs, new_state}

pub new_states_belong : (z : Opening) (i n : ℕ) → All (λ (p : PassState). Belongs z false p.holding) (map new_state (new_passes z i n))
new_states_belong z i zero k d lt = absurd (let l : k < 0 = lt in omega arith)
new_states_belong z i (suc n) zero d lt = (refl, refl)
new_states_belong z i (suc n) (suc k) d lt = new_states_belong z (suc i) n k d (omega arith)

pub all_of_one : {X : Type 0} (P : X → Type 0) (p : X) → P p → All P (p ∷ [])
all_of_one P p one zero d lt = one
all_of_one P p one (suc k) d lt = absurd (let l : suc k < 1 = lt in omega arith)

-- one more behind those that are there
pub more_after : {X : Type 0} (P : X → Type 0) (xs ys zs more : List X) (p : X) → ys ≡ xs ++ more → zs ≡ ys ++ p ∷ [] → All P more → P p → (m : List X) × (zs ≡ xs ++ m) × All P m
more_after {X} P xs ys zs more p e f all one =
    (more ++ p ∷ [], f ∙ (ap (λ (u : List X). u ++ p ∷ []) e ∙ append_assoc xs more (p ∷ [])), All-append P more (p ∷ []) all (all_of_one P p one))
