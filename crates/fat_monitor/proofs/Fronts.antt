-- Lists that begin with another.
use Rattle.std.proofs.Common.{◌≡◌, ℕ, List, [], ◌∷◌, ◌++◌, length, drop, refl, ap, sym, ◌∙◌, subst}
use Rattle.std.proofs.lemmas.List.{take-append-drop}
use Rattle.std.proofs.Math.Seq.{take-append_seam, take-length}
use Rattle.fat_monitor.specs.Numbers.{BeginsWith}

abbrev pub first : List ℕ → ℕ
first [] = 0
first (n ∷ ns) = n

abbrev pub behind : List ℕ → List ℕ
behind [] = []
behind (n ∷ ns) = ns

pub front_same : (xs : List ℕ) → BeginsWith xs xs
front_same xs = take-length xs

pub front_more : (xs ys : List ℕ) → BeginsWith (xs ++ ys) xs
front_more xs ys = take-append_seam xs ys

-- a front of a front is a front
pub front_of_front : (xs ys zs : List ℕ) → BeginsWith zs (xs ++ ys) → BeginsWith zs xs
front_of_front [] ys zs h = refl
front_of_front (x ∷ xs) ys [] h = absurd (cc)
front_of_front (x ∷ xs) ys (z ∷ zs) h =
    λ i. ap first h i ∷ front_of_front xs ys zs (ap behind h) i

pub front_then : (xs ys zs : List ℕ) → BeginsWith ys xs → BeginsWith zs ys → BeginsWith zs xs
front_then xs ys zs a b =
    let e : xs ++ drop (length xs) ys ≡ ys = ap (λ (l : List ℕ). l ++ drop (length xs) ys) (sym a) ∙ take-append-drop (length xs) ys in
    front_of_front xs (drop (length xs) ys) zs (subst (λ (l : List ℕ). BeginsWith zs l) (sym e) b)

-- what tells that numbers that were put stand behind those that were there
pub ruleset fronts = (front_same, front_more, front_of_front)
