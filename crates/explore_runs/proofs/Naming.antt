-- Names that are written, and read as numbers.
use native.Mathlib.Omega.{arith}
use Rattle.std.proofs.Common.{◌≡◌, ◌∙◌, sym, ap, refl, ℕ, zero, suc, ◌<◌, ◌≤◌, Bool, true, false, cond, not, ◌||◌, List, [], ◌∷◌, ◌++◌, length, take, append_assoc, append-nil, ◌+◌, ◌⊎◌, inl, inr}
use Rattle.std.specs.Prelude.{if◌then◌else◌}
use Rattle.std.specs.Str.{bytes_eq}
use Rattle.std.proofs.lemmas.Bool.{cases_lt}
use Rattle.std.proofs.lemmas.List.{take_all}
use Rattle.std.proofs.lemmas.Slice.Eq.{bytes_eq-Decides}
use Rattle.script_text.specs.Names.{is_named, position_of, with_name}
use Rattle.script_text.specs.Words.{is_name}
use Rattle.history.specs.NameLists.{name_at}
use Rattle.explore_runs.specs.Replays.{AreApart, AreNames}

pub differs : (a b : List ℕ) → (a ≡ b → ⊥) → bytes_eq a b ≡ false
differs a b other = by (bytes_eq a b) refl
  where
    by : (r : Bool) → bytes_eq a b ≡ r → r ≡ false
    by true e = absurd (other ((bytes_eq-Decides a b).0 e))
    by false e = refl

same : (a : List ℕ) → bytes_eq a a ≡ true
same a = (bytes_eq-Decides a a).1 refl

apart_tail : (x : List ℕ) (xs : List (List ℕ)) → AreApart (x ∷ xs) → AreApart xs
apart_tail x xs h = λ i j lt within e. h (suc i) (suc j) (omega (arith, lt)) (omega (arith, within)) e

apart_first : (x : List ℕ) (xs : List (List ℕ)) (k : ℕ) → AreApart (x ∷ xs) → k < length xs → bytes_eq (name_at xs k) x ≡ false
apart_first x xs k h lt = differs (name_at xs k) x (λ e. h 0 (suc k) (omega arith) (omega (arith, lt)) (sym e))

-- among the first of the names, a name has its own number, also where it would be the next
pub own_position : (xs : List (List ℕ)) (k m : ℕ) → AreApart xs → k < length xs → k ≤ m → position_of (take m xs) (name_at xs k) ≡ k
own_position [] k m apart lt le = absurd (omega (arith, lt))
own_position (x ∷ xs) zero zero apart lt le = refl
own_position (x ∷ xs) zero (suc m) apart lt le = rw (same x) refl
own_position (x ∷ xs) (suc k) zero apart lt le = absurd (omega (arith, le))
own_position (x ∷ xs) (suc k) (suc m) apart lt le =
    let below : k < length xs = omega (arith, lt) in
    let rest = own_position xs k m (apart_tail x xs apart) below (omega (arith, le)) in
    rw (apart_first x xs k apart below) (omega (arith, rest))

pub named_before : (xs : List (List ℕ)) (k m : ℕ) → AreApart xs → k < length xs → k < m → is_named (take m xs) (name_at xs k) ≡ true
named_before [] k m apart lt below = absurd (omega (arith, lt))
named_before (x ∷ xs) k zero apart lt below = absurd (omega (arith, below))
named_before (x ∷ xs) zero (suc m) apart lt below = rw (same x) refl
named_before (x ∷ xs) (suc k) (suc m) apart lt below =
    let within : k < length xs = omega (arith, lt) in
    rw (apart_first x xs k apart within) (named_before xs k m (apart_tail x xs apart) within (omega (arith, below)))

named_next : (xs : List (List ℕ)) (m : ℕ) → AreApart xs → m < length xs → is_named (take m xs) (name_at xs m) ≡ false
named_next [] m apart lt = absurd (omega (arith, lt))
named_next (x ∷ xs) zero apart lt = refl
named_next (x ∷ xs) (suc m) apart lt =
    let within : m < length xs = omega (arith, lt) in
    rw (apart_first x xs m apart within) (named_next xs m (apart_tail x xs apart) within)

take_next : (xs : List (List ℕ)) (m : ℕ) → m < length xs → take m xs ++ name_at xs m ∷ [] ≡ take (suc m) xs
take_next [] m lt = absurd (omega (arith, lt))
take_next (x ∷ xs) zero lt = refl
take_next (x ∷ xs) (suc m) lt = ap (λ (ys : List (List ℕ)). x ∷ ys) (take_next xs m (omega (arith, lt)))

-- a name that is there stays, and the next one goes last
pub name_stays : (xs : List (List ℕ)) (k m : ℕ) → AreApart xs → k < length xs → k < m → with_name (take m xs) (name_at xs k) ≡ take m xs
name_stays xs k m apart lt below = rw (named_before xs k m apart lt below) refl

pub name_next : (xs : List (List ℕ)) (m : ℕ) → AreApart xs → m < length xs → with_name (take m xs) (name_at xs m) ≡ take (suc m) xs
name_next xs m apart lt = rw (named_next xs m apart lt) (take_next xs m lt)

-- what is a name has a number
pub has_number : (xs : List (List ℕ)) (k : ℕ) → is_name (name_at xs k) ≡ true → k < length xs
has_number [] k h = absurd (cc)
has_number (x ∷ xs) zero h = omega arith
has_number (x ∷ xs) (suc k) h = let r = has_number xs k h in omega (arith, r)

pub own_number : (xs : List (List ℕ)) (k : ℕ) → AreApart xs → is_name (name_at xs k) ≡ true → position_of xs (name_at xs k) ≡ k
own_number xs k apart h =
    let lt = has_number xs k h in
    ap (λ (ys : List (List ℕ)). position_of ys (name_at xs k)) (sym (take_all (length xs) xs (omega arith)))
    ∙ own_position xs k (length xs) apart lt (omega (arith, lt))

-- ---- lists of names with more names behind them

abbrev pub Follows : List (List ℕ) → List (List ℕ) → Type 0
Follows xs ys = (more : List (List ℕ)) × (ys ≡ xs ++ more)

pub follows_itself : (xs : List (List ℕ)) → Follows xs xs
follows_itself xs = ([], sym (append-nil xs))

pub follows_on : (xs ys zs : List (List ℕ)) → Follows xs ys → Follows ys zs → Follows xs zs
follows_on xs ys zs (more, e) (rest, g) = (more ++ rest, g ∙ ap (λ (l : List (List ℕ)). l ++ rest) e ∙ append_assoc xs more rest)

pub name_follows : (xs : List (List ℕ)) (n : List ℕ) → Follows xs (with_name xs n)
name_follows xs n = by (is_named xs n)
  where
    by : (b : Bool) → Follows xs (if b then xs else xs ++ n ∷ [])
    by true = follows_itself xs
    by false = (n ∷ [], refl)

-- a name that is there is there still, and has its number
pub named_front : (xs more : List (List ℕ)) (n : List ℕ) → is_named xs n ≡ true → is_named (xs ++ more) n ≡ true
named_front [] more n h = absurd (cc)
named_front (x ∷ xs) more n h = by (bytes_eq n x) h (λ g. named_front xs more n g)
  where
    by : (b : Bool) → (b || is_named xs n) ≡ true → (is_named xs n ≡ true → is_named (xs ++ more) n ≡ true) → (b || is_named (xs ++ more) n) ≡ true
    by true g rest = refl
    by false g rest = rest g

pub position_front : (xs more : List (List ℕ)) (n : List ℕ) → is_named xs n ≡ true → position_of (xs ++ more) n ≡ position_of xs n
position_front [] more n h = absurd (cc)
position_front (x ∷ xs) more n h = by (bytes_eq n x) h (λ g. position_front xs more n g)
  where
    by : (b : Bool) → (b || is_named xs n) ≡ true → (is_named xs n ≡ true → position_of (xs ++ more) n ≡ position_of xs n)
        → cond (not b) (1 + position_of (xs ++ more) n) 0 ≡ cond (not b) (1 + position_of xs n) 0
    by true g rest = refl
    by false g rest = ap (λ (k : ℕ). 1 + k) (rest g)

-- one that is not has its number behind them
pub position_behind : (xs more : List (List ℕ)) (n : List ℕ) → is_named xs n ≡ false → position_of (xs ++ more) n ≡ length xs + position_of more n
position_behind [] more n h = omega arith
position_behind (x ∷ xs) more n h = by (bytes_eq n x) h (λ g. position_behind xs more n g)
  where
    by : (b : Bool) → (b || is_named xs n) ≡ false → (is_named xs n ≡ false → position_of (xs ++ more) n ≡ length xs + position_of more n)
        → cond (not b) (1 + position_of (xs ++ more) n) 0 ≡ suc (length xs) + position_of more n
    by true g rest = absurd (cc)
    by false g rest = let r = rest g in omega (arith, r)

-- where a name is added, it has the number that it keeps
pub number_stays : (xs ys : List (List ℕ)) (n : List ℕ) → Follows (with_name xs n) ys → position_of ys n ≡ position_of xs n
number_stays xs ys n follows = by (is_named xs n) refl follows
  where
    by : (b : Bool) → is_named xs n ≡ b → Follows (if b then xs else xs ++ n ∷ []) ys → position_of ys n ≡ position_of xs n
    by true is (more, e) = ap (λ (l : List (List ℕ)). position_of l n) e ∙ position_front xs more n is
    by false is (more, e) =
        let here : position_of (n ∷ more) n ≡ 0 = rw (same n) refl in
        let then_there = position_behind xs (n ∷ more) n is in
        let last = position_behind xs [] n is in
        let none : position_of (xs ++ []) n ≡ position_of xs n = ap (λ (l : List (List ℕ)). position_of l n) (append-nil xs) in
        let all : position_of ys n ≡ position_of (xs ++ n ∷ more) n = ap (λ (l : List (List ℕ)). position_of l n) (e ∙ append_assoc xs (n ∷ []) more) in
        omega (arith, here, then_there, last, none, all)

name_past : (xs : List (List ℕ)) (k : ℕ) → length xs ≤ k → name_at xs k ≡ 45 ∷ []
name_past [] zero le = refl
name_past [] (suc k) le = refl
name_past (x ∷ xs) zero le = absurd (omega (arith, le))
name_past (x ∷ xs) (suc k) le = name_past xs k (omega (arith, le))

first_differs : (x : List ℕ) (xs : List (List ℕ)) (k : ℕ) → AreApart (x ∷ xs) → is_name x ≡ true → bytes_eq (name_at xs k) x ≡ false
first_differs x xs k apart is = by (cases_lt k (length xs))
  where
    by : (k < length xs) ⊎ (length xs ≤ k) → bytes_eq (name_at xs k) x ≡ false
    by (inl lt) = apart_first x xs k apart lt
    by (inr le) =
        differs (name_at xs k) x (λ e. let never : is_name (45 ∷ []) ≡ true = ap is_name (sym (name_past xs k le) ∙ e) ∙ is in cc)

-- among the first of the names no later one is
pub not_before : (xs : List (List ℕ)) (k m : ℕ) → AreApart xs → AreNames xs → m ≤ k → is_named (take m xs) (name_at xs k) ≡ false
not_before [] k zero apart names le = refl
not_before [] k (suc m) apart names le = refl
not_before (x ∷ xs) k zero apart names le = refl
not_before (x ∷ xs) zero (suc m) apart names le = absurd (omega (arith, le))
not_before (x ∷ xs) (suc k) (suc m) apart names le =
    rw (first_differs x xs k apart (names 0 (omega arith)))
    (not_before xs k m (apart_tail x xs apart) (λ j lt. names (suc j) (omega (arith, lt))) (omega (arith, le)))
