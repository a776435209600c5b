-- The replies of calls, and their numbers.
use Rattle.std.proofs.Common.{◌≡◌, ap, refl, ℕ, zero, suc, List, ◌∷◌, None}
use Rattle.std.specs.Prelude.{map, replicate}
use Rattle.explore.specs.Codes.{answer_number}

pub no_replies : (n : ℕ) → map answer_number (replicate n None) ≡ replicate n 0
no_replies zero = refl
no_replies (suc n) = ap (λ (ns : List ℕ). 0 ∷ ns) (no_replies n)
