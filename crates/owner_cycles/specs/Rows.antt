-- Rows of numbers, each of which leads to one other number of the row at most: walks along a row, and its cycles.
use Rattle.std.specs.Prelude.{◌≡◌, ◌⊎◌, ℕ, ◌<◌, Bool, true, false, List, [], ◌∷◌, ◌++◌, length, slice_index_or, Option}
use Rattle.std.specs.Prelude.{Some, None}
use Rattle.step_core.specs.Cycles.{AreDistinct, AreCyclesOf}

-- where a number leads: nowhere, past the end of the row
abbrev pub leads_to : List (Option ℕ) → ℕ → Option ℕ
leads_to row v = slice_index_or row v None

-- each number of the row leads to one of the row, or nowhere
abbrev pub IsRow : List (Option ℕ) → Type 0
IsRow row = (v u : ℕ) → leads_to row v ≡ Some u → u < length row

abbrev pub IsIn : {A : Type 0} → A → List A → Type 0
IsIn x [] = ⊥
IsIn x (y ∷ ys) = (x ≡ y) ⊎ IsIn x ys

-- A walk that stands at from goes along the path, and stands at to then: at none where the last leads nowhere.
abbrev pub Goes : {A : Type 0} → (A → Option A) → Option A → List A → Option A → Type 0
Goes f from [] to = to ≡ from
Goes f from (x ∷ xs) to = (from ≡ Some x) × Goes f (f x) xs to

-- whoever walks on from v comes back to it
abbrev pub IsOnCycle : {A : Type 0} → (A → Option A) → A → Type 0
IsOnCycle {A} f v = (path : List A) × Goes f (f v) path (Some v)

-- whether a number was seen
abbrev pub is_seen : List Bool → ℕ → Bool
is_seen seen v = slice_index_or seen v false

-- A walk along numbers that were not seen before, and are seen now. No other number has become seen.
pub record IsWay (f : ℕ → Option ℕ) (before after : List Bool) (from : Option ℕ) (path : List ℕ)
    (to : Option ℕ) : Type 0 where
  pub goes : Goes f from path to
  pub distinct : AreDistinct path
  pub fresh : (v : ℕ) → IsIn v path → is_seen before v ≡ true → ⊥
  pub marked : (v : ℕ) → IsIn v path → is_seen after v ≡ true
  pub grown : (v : ℕ) → is_seen before v ≡ true → is_seen after v ≡ true
  pub only : (v : ℕ) → is_seen after v ≡ true → (is_seen before v ≡ true) ⊎ IsIn v path
  pub long : length after ≡ length before

-- and it goes on until it meets a number that was seen, or comes to an end
abbrev pub IsWalk : (ℕ → Option ℕ) → List Bool → List Bool → ℕ → List ℕ → Option ℕ → Type 0
IsWalk f before after start path to =
    IsWay f before after (Some start) path to × ((v : ℕ) → to ≡ Some v → is_seen after v ≡ true)

-- the part of a path from a number on: empty where it is not on the path
abbrev pub IsPartFrom : ℕ → List ℕ → List ℕ → Type 0
IsPartFrom v path part =
    ((part ≡ []) × (IsIn v path → ⊥))
    ⊎ ((front : List ℕ) × (rest : List ℕ) × (part ≡ v ∷ rest) × (path ≡ front ++ v ∷ rest))

-- the part of a path that its end closes to a cycle
abbrev pub IsRing : Option ℕ → List ℕ → List ℕ → Type 0
IsRing None path ring = ring ≡ []
IsRing (Some v) path ring = IsPartFrom v path ring

-- those of the part are not seen any more, and no other has changed
pub record AreCleared (before after : List Bool) (part : List ℕ) : Type 0 where
  pub cleared : (v : ℕ) → IsIn v part → is_seen after v ≡ true → ⊥
  pub kept : (v : ℕ) → (IsIn v part → ⊥) → is_seen after v ≡ is_seen before v
  pub long : length after ≡ length before

-- exactly the numbers of the row that stand on no cycle are seen
pub record AreOffCycles (row : List (Option ℕ)) (seen : List Bool) : Type 0 where
  pub long : length seen ≡ length row
  pub off : (v : ℕ) → is_seen seen v ≡ true → IsOnCycle (leads_to row) v → ⊥
  pub on : (v : ℕ) → v < length row → (is_seen seen v ≡ true → ⊥) → IsOnCycle (leads_to row) v

-- exactly the cycles of the row
abbrev pub AreCyclesOfRow : List (Option ℕ) → List (List ℕ) → Type 0
AreCyclesOfRow row lists = AreCyclesOf (λ (v : ℕ). v) (leads_to row) lists

-- the lists, and a path behind them unless it is empty
abbrev pub with_path : List (List ℕ) → List ℕ → List (List ℕ)
with_path lists [] = lists
with_path lists (x ∷ xs) = lists ++ (x ∷ xs) ∷ []
