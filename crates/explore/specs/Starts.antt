-- Where the calls of each thread begin.
use Rattle.std.specs.Prelude.{ℕ, Bool, ◌&&◌, nat_le, List, [], ◌∷◌}

-- these rise from the first on, and none is past the end
abbrev pub rise_to : ℕ → List ℕ → ℕ → Bool
rise_to last [] end = nat_le last end
rise_to last (s ∷ ss) end = nat_le last s && rise_to s ss end
