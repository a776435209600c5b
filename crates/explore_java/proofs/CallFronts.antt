-- Fronts of lists, and the calls of a thread among those of all.
use native.Mathlib.Omega.{arith}
use Rattle.std.proofs.Common.{◌≡◌, ◌∙◌, sym, ap, refl, subst, ℕ, zero, suc, ◌+◌, ◌-◌, ◌<◌, ◌≤◌, Bool, if◌then◌else◌, List, [], ◌∷◌, ◌++◌, length, take, drop, Some, None}
use Rattle.std.specs.Prelude.{slice_get}
use Rattle.std.specs.Option.{option_to_list}
use Rattle.std.proofs.lemmas.Bool.{lt-ltb}
use Rattle.fast_path.specs.declared.calls.Call.{Call}
use Rattle.explore.specs.declared.programs.Program.{Program}
use Rattle.explore.specs.States.{call_below, end_of, start_of}
use Rattle.explore_java.specs.JavaRuns.{IsFront, calls_of}

pub take_more : {A : Type 0} (xs : List A) (n : ℕ) → take (suc n) xs ≡ take n xs ++ option_to_list (slice_get xs n)
take_more [] zero = refl
take_more [] (suc n) = refl
take_more (x ∷ xs) zero = refl
take_more (x ∷ xs) (suc n) = ap (λ ys. x ∷ ys) (take_more xs n)

pub get_behind : {A : Type 0} (xs : List A) (m n : ℕ) → slice_get (drop m xs) n ≡ slice_get xs (m + n)
get_behind xs zero n = ap (slice_get xs) (omega arith)
get_behind [] (suc m) n = refl
get_behind (x ∷ xs) (suc m) n =
    let more : suc (m + n) ≡ suc m + n = omega arith in
    get_behind xs m n ∙ ap (slice_get (x ∷ xs)) more

-- ---- fronts of lists

pub front_take : {A : Type 0} (n : ℕ) (xs : List A) → IsFront (take n xs) xs
front_take zero xs = refl
front_take (suc n) [] = refl
front_take (suc n) (x ∷ xs) = ap (λ ys. x ∷ ys) (front_take n xs)

pub front_of : {A : Type 0} (xs ys : List A) (n : ℕ) → xs ≡ take n ys → IsFront xs ys
front_of xs ys n h = subst (λ zs. IsFront zs ys) (sym h) (front_take n ys)

pub taken_past : {A : Type 0} (xs : List A) (n i : ℕ) → i < n → slice_get (take n xs) i ≡ slice_get xs i
taken_past [] zero i lt = absurd (omega (arith, lt))
taken_past [] (suc n) i lt = refl
taken_past (x ∷ xs) zero i lt = absurd (omega (arith, lt))
taken_past (x ∷ xs) (suc n) zero lt = refl
taken_past (x ∷ xs) (suc n) (suc i) lt = taken_past xs n i (omega (arith, lt))

pub taken_back : {A : Type 0} (xs : List A) (n i : ℕ) (x : A) → slice_get (take n xs) i ≡ Some x → (i < n) × (slice_get xs i ≡ Some x)
taken_back xs zero i x h = absurd (cc)
taken_back [] (suc n) i x h = absurd (cc)
taken_back (y ∷ xs) (suc n) zero x h = (omega arith, h)
taken_back (y ∷ xs) (suc n) (suc i) x h = let rest = taken_back xs n i x h in ((let lt = rest.0 in omega (arith, lt)), rest.1)

-- what comes behind a front of a list
pub front_next : {A : Type 0} (n : ℕ) (xs : List A) (x : A) → slice_get xs (length (take n xs)) ≡ Some x → slice_get xs n ≡ Some x
front_next zero xs x h = h
front_next (suc n) [] x h = absurd (cc)
front_next (suc n) (y ∷ xs) x h = front_next n xs x h

-- the call of a thread that stands at a position among all
pub call_back : (p : Program) (k n : ℕ) (c : Call) → start_of p k ≤ n → slice_get (calls_of p k) (n - start_of p k) ≡ Some c → call_below p k n ≡ Some c
call_back p k n c from is =
    let taken = taken_back (drop (start_of p k) p.calls.items) (end_of p k - start_of p k) (n - start_of p k) c is in
    let lt = taken.0 in
    let here : start_of p k + (n - start_of p k) ≡ n = omega (arith, from) in
    let there : slice_get p.calls.items n ≡ Some c =
    ap (λ (i : ℕ). slice_get p.calls.items i) (sym here) ∙ sym (get_behind p.calls.items (start_of p k) (n - start_of p k)) ∙ taken.1 in
    ap (λ (b : Bool). if b then slice_get p.calls.items n else None) (lt-ltb n (end_of p k) (omega (arith, lt, from))) ∙ there

pub call_there : (p : Program) (k n : ℕ) (c : Call) → start_of p k ≤ n → n < end_of p k → slice_get p.calls.items n ≡ Some c
    → slice_get (calls_of p k) (n - start_of p k) ≡ Some c
call_there p k n c from lt is =
    let here : start_of p k + (n - start_of p k) ≡ n = omega (arith, from) in
    taken_past (drop (start_of p k) p.calls.items) (end_of p k - start_of p k) (n - start_of p k) (omega (arith, from, lt))
    ∙ get_behind p.calls.items (start_of p k) (n - start_of p k) ∙ ap (λ (i : ℕ). slice_get p.calls.items i) here ∙ is
