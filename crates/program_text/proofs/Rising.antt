-- Positions that rise.
use Rattle.std.proofs.Common.{◌≡◌, ℕ, ◌≤◌, List, [], ◌∷◌, ◌++◌, true, nat_le, arith, refl}
use Rattle.std.proofs.lemmas.Bool.{and_parts}
use Rattle.std.proofs.lemmas.Bool.Decides.{nat_tests}
use Rattle.explore.specs.Starts.{rise_to}

-- an end that is further on
pub rise_more : (last : ℕ) (xs : List ℕ) (m n : ℕ) → rise_to last xs m ≡ true → m ≤ n → rise_to last xs n ≡ true
rise_more last [] m n h le = grind (arith, nat_tests)
rise_more last (x ∷ xs) m n h le =
    let parts = and_parts (nat_le last x) (rise_to x xs m) h in
    rw (parts.0, rise_more x xs m n parts.1 le) refl

-- the end itself behind them
pub rise_last : (last : ℕ) (xs : List ℕ) (n : ℕ) → rise_to last xs n ≡ true → rise_to last (xs ++ n ∷ []) n ≡ true
rise_last last [] n h = grind (arith, nat_tests)
rise_last last (x ∷ xs) n h =
    let parts = and_parts (nat_le last x) (rise_to x xs n) h in
    rw (parts.0, rise_last x xs n parts.1) refl
