-- The next element of a list that is gone through.
use Rattle.std.proofs.Common.{◌≡◌, ℕ, zero, suc, ◌+◌, ◌<◌, List, [], ◌∷◌, ◌++◌, length, take, drop, get_or, refl, sym, ap, ◌∙◌, arith}
use Rattle.std.proofs.Math.ListN.{set}
use Rattle.std.proofs.Math.Seq.{drop-cons}
use Rattle.std.proofs.lemmas.List.{drop-set-lt, take_at}

pub drop_next : {A : Type 0} (xs : List A) (i : ℕ) (d : A) → i < length xs → drop i xs ≡ get_or xs i d ∷ drop (i + 1) xs
drop_next xs i d within =
    let next : suc i ≡ i + 1 = omega arith in
    drop-cons xs i d within ∙ ap (λ k. get_or xs i d ∷ drop k xs) next

take_suc : {A : Type 0} (xs : List A) (i : ℕ) (d : A) → i < length xs → take (suc i) xs ≡ take i xs ++ get_or xs i d ∷ []
take_suc [] i d within = absurd (omega (arith, within))
take_suc (x ∷ xs) zero d within = refl
take_suc (x ∷ xs) (suc i) d within = ap (λ l. x ∷ l) (take_suc xs i d (omega (arith, within)))

pub take_next : {A : Type 0} (xs : List A) (i : ℕ) (d : A) → i < length xs → take (i + 1) xs ≡ take i xs ++ get_or xs i d ∷ []
take_next xs i d within =
    let next : i + 1 ≡ suc i = omega arith in
    ap (λ k. take k xs) next ∙ take_suc xs i d within

-- ---- a list whose elements are written one after another

-- two lists that are the same from an index on
pub same_next : {A : Type 0} (xs ys : List A) (i : ℕ) (d : A) → i < length xs → i < length ys → drop i ys ≡ drop i xs
    → (get_or ys i d ≡ get_or xs i d) × (drop (i + 1) ys ≡ drop (i + 1) xs)
same_next xs ys i d here there e =
    let next = sym (drop_next ys i d there) ∙ e ∙ drop_next xs i d here in
    (cc, cc)

-- and the same behind it, once the element there is written
pub same_behind : {A : Type 0} (xs ys : List A) (i : ℕ) (y : A) → i < length xs → i < length ys → drop i ys ≡ drop i xs
    → drop (i + 1) (set ys i y) ≡ drop (i + 1) xs
same_behind xs ys i y here there e = drop-set-lt (i + 1) ys i y (omega arith) ∙ (same_next xs ys i y here there e).1

-- what a vector has once its slice is written
pub written_back : {A : Type 0} (new old : List A) (n : ℕ) → length new ≡ n → take n (new ++ drop (length new) old) ≡ new
written_back new old n e = take_at new (drop (length new) old) n e
