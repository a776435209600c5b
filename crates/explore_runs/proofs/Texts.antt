-- The text of an outcome.
use Rattle.std.proofs.Common.{◌≡◌, ℕ, List, [], ◌∷◌, ◌++◌, append_assoc}

-- the parts of an outcome, one behind the other
pub part_joined : (old first second third a b c d text witness : List ℕ) → first ≡ old ++ (a ++ b ++ c ++ d ++ 10 ∷ []) → second ≡ first ++ text → third ≡ second ++ witness
    → third ≡ old ++ (a ++ b ++ c ++ d ++ 10 ∷ (text ++ witness))
part_joined old first second third a b c d text witness e f g = rw (g, f, e) (simp append_assoc)
