-- Names in a list: their positions, and one more.
use native.Mathlib.Omega.{arith}
use Rattle.std.proofs.Common.{◌≡◌, ◌∙◌, ◌⊎◌, inl, inr, sym, ap, refl, ℕ, zero, suc, ◌+◌, ◌<◌, ◌≤◌, Bool, true, false, not, ◌||◌, cond, List, [], ◌∷◌, ◌++◌, length, length-append}
use Rattle.std.specs.Prelude.{if◌then◌else◌}
use Rattle.std.specs.Str.{bytes_eq}
use Rattle.std.proofs.lemmas.Bool.{cases_lt}
use Rattle.std.proofs.lemmas.Slice.Eq.{bytes_eq-Decides}
use Rattle.script_text.specs.Names.{is_named, position_of, with_name}
use Rattle.script_text.specs.Words.{is_name}
use Rattle.history.specs.NameLists.{name_at}
use Rattle.explore_runs.specs.Replays.{AreApart, AreNames}

pub name_before : (xs ys : List (List ℕ)) (k : ℕ) → k < length xs → name_at (xs ++ ys) k ≡ name_at xs k
name_before [] ys k lt = absurd (omega (arith, lt))
name_before (x ∷ xs) ys zero lt = refl
name_before (x ∷ xs) ys (suc k) lt = name_before xs ys k (omega (arith, lt))

name_last : (xs : List (List ℕ)) (n : List ℕ) → name_at (xs ++ n ∷ []) (length xs) ≡ n
name_last [] n = refl
name_last (x ∷ xs) n = name_last xs n

pub names_more : (xs : List (List ℕ)) (n : List ℕ) → AreNames xs → is_name n ≡ true → AreNames (xs ++ n ∷ [])
names_more xs n h is = λ k lt. by k lt (cases_lt k (length xs))
  where
    by : (k : ℕ) → k < length (xs ++ n ∷ []) → (k < length xs) ⊎ (length xs ≤ k) → is_name (name_at (xs ++ n ∷ []) k) ≡ true
    by k lt (inl below) = ap is_name (name_before xs (n ∷ []) k below) ∙ h k below
    by k lt (inr past) =
        let l = length-append xs (n ∷ []) in
        let here : k ≡ length xs = omega (arith, l, lt, past) in
        ap (λ (j : ℕ). is_name (name_at (xs ++ n ∷ []) j)) here ∙ ap is_name (name_last xs n) ∙ is

-- none of these names is this one
abbrev pub IsNew : List (List ℕ) → List ℕ → Type 0
IsNew xs n = (k : ℕ) → k < length xs → name_at xs k ≡ n → ⊥

pub apart_more : (xs : List (List ℕ)) (n : List ℕ) → AreApart xs → IsNew xs n → AreApart (xs ++ n ∷ [])
apart_more xs n h new = λ i j lt within e. by i j lt within e (cases_lt j (length xs))
  where
    by : (i j : ℕ) → i < j → j < length (xs ++ n ∷ []) → name_at (xs ++ n ∷ []) i ≡ name_at (xs ++ n ∷ []) j → (j < length xs) ⊎ (length xs ≤ j) → ⊥
    by i j lt within e (inl below) =
        h i j lt below (sym (name_before xs (n ∷ []) i (omega (arith, lt, below))) ∙ e ∙ name_before xs (n ∷ []) j below)
    by i j lt within e (inr past) =
        let l = length-append xs (n ∷ []) in
        let here : j ≡ length xs = omega (arith, l, within, past) in
        let first : i < length xs = omega (arith, lt, here) in
        new i first (sym (name_before xs (n ∷ []) i first) ∙ e ∙ ap (λ (k : ℕ). name_at (xs ++ n ∷ []) k) here ∙ name_last xs n)

same_name : (n : List ℕ) → bytes_eq n n ≡ true
same_name n = (bytes_eq-Decides n n).1 refl

pub new_name : (xs : List (List ℕ)) (n : List ℕ) → is_named xs n ≡ false → IsNew xs n
new_name [] n h k lt e = absurd (omega (arith, lt))
new_name (x ∷ xs) n h zero lt e = absurd (let yes = ap (λ (m : List ℕ). bytes_eq n m) e ∙ same_name n in grind (arith, yes, h))
new_name (x ∷ xs) n h (suc k) lt e = new_name xs n (rest (bytes_eq n x) h) k (omega (arith, lt)) e
  where
    rest : (b : Bool) → (b || is_named xs n) ≡ false → is_named xs n ≡ false
    rest true g = absurd (cc)
    rest false g = g

-- a name that would get the next number is new
pub not_named : (xs : List (List ℕ)) (n : List ℕ) → position_of xs n ≡ length xs → is_named xs n ≡ false
not_named [] n h = refl
not_named (x ∷ xs) n h = by (bytes_eq n x) h (λ g. not_named xs n g)
  where
    by : (b : Bool) → cond (not b) (1 + position_of xs n) 0 ≡ length (x ∷ xs) → (position_of xs n ≡ length xs → is_named xs n ≡ false) → (b || is_named xs n) ≡ false
    by true g rest = absurd (omega (arith, g))
    by false g rest = rest (omega (arith, g))

-- a name that is there stands at its position
pub found_name : (xs : List (List ℕ)) (n : List ℕ) → position_of xs n < length xs → name_at xs (position_of xs n) ≡ n
found_name [] n lt = absurd (omega (arith, lt))
found_name (x ∷ xs) n lt = by (bytes_eq n x) refl lt (λ g. found_name xs n g)
  where
    by : (b : Bool) → bytes_eq n x ≡ b → cond (not b) (1 + position_of xs n) 0 < length (x ∷ xs) → (position_of xs n < length xs → name_at xs (position_of xs n) ≡ n) → name_at (x ∷ xs) (cond (not b) (1 + position_of xs n) 0) ≡ n
    by true same g rest = sym ((bytes_eq-Decides n x).0 same)
    by false other g rest =
        let one : 1 + position_of xs n ≡ suc (position_of xs n) = omega arith in
        ap (λ (k : ℕ). name_at (x ∷ xs) k) one ∙ rest (omega (arith, g))

named_within : (xs : List (List ℕ)) (n : List ℕ) → is_named xs n ≡ true → position_of xs n < length xs
named_within [] n h = absurd (cc)
named_within (x ∷ xs) n h = by (bytes_eq n x) h (λ g. named_within xs n g)
  where
    by : (b : Bool) → (b || is_named xs n) ≡ true → (is_named xs n ≡ true → position_of xs n < length xs) → cond (not b) (1 + position_of xs n) 0 < length (x ∷ xs)
    by true g rest = omega arith
    by false g rest = let r = rest g in omega (arith, r)

not_within : (xs : List (List ℕ)) (n : List ℕ) → is_named xs n ≡ false → position_of xs n ≡ length xs
not_within [] n h = refl
not_within (x ∷ xs) n h = by (bytes_eq n x) h (λ g. not_within xs n g)
  where
    by : (b : Bool) → (b || is_named xs n) ≡ false → (is_named xs n ≡ false → position_of xs n ≡ length xs) → cond (not b) (1 + position_of xs n) 0 ≡ length (x ∷ xs)
    by true g rest = absurd (cc)
    by false g rest = let r = rest g in omega (arith, r)

-- where a name is added, it has the position that it was given
pub with_found : (xs : List (List ℕ)) (n : List ℕ) → (position_of xs n < length (with_name xs n)) × (name_at (with_name xs n) (position_of xs n) ≡ n)
with_found xs n = by (is_named xs n) refl
  where
    by : (b : Bool) → is_named xs n ≡ b
        → (position_of xs n < length (if b then xs else xs ++ n ∷ [])) × (name_at (if b then xs else xs ++ n ∷ []) (position_of xs n) ≡ n)
    by true is = let r = named_within xs n is in (r, found_name xs n r)
    by false is =
        let here = not_within xs n is in
        let l = length-append xs (n ∷ []) in
        (omega (arith, l, here), ap (λ (k : ℕ). name_at (xs ++ n ∷ []) k) here ∙ name_last xs n)

pub with_right : (xs : List (List ℕ)) (n : List ℕ) → AreNames xs → AreApart xs → is_name n ≡ true → AreNames (with_name xs n) × AreApart (with_name xs n)
with_right xs n names apart is = by (is_named xs n) refl
  where
    by : (b : Bool) → is_named xs n ≡ b → AreNames (if b then xs else xs ++ n ∷ []) × AreApart (if b then xs else xs ++ n ∷ [])
    by true e = (names, apart)
    by false e = (names_more xs n names is, apart_more xs n apart (new_name xs n e))
