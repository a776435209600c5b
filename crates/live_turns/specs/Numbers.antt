-- Numbers from 1 on, all of which are there.
use Rattle.std.specs.Prelude.{◌≡◌, ◌≤◌, ℕ, List, Contains, length}

-- each number up to this one is among these
abbrev pub HasNumbers : ℕ → List ℕ → Type 0
HasNumbers count ns = (i : ℕ) → 1 ≤ i → i ≤ count → Contains ns i

-- these are the numbers up to this one, each once
abbrev pub HasEach : ℕ → List ℕ → Type 0
HasEach count ns = (length ns ≡ count) × HasNumbers count ns
