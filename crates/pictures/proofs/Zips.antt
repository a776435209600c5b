-- What holds of the items of two lists, place by place.
use Rattle.std.proofs.Common.{◌≡◌, ℕ, ◌+◌, ◌<◌, List, [], ◌∷◌, ◌++◌, length, take, drop, get_or, subst}
use Rattle.std.proofs.Math.ListN.{set}
use Rattle.std.proofs.lemmas.List.{take_more_set}
use Rattle.std.specs.List.{AllZip}
use Rattle.pictures.proofs.Nexts.{same_next, take_next}

pub zip_more : {A B : Type 0} (R : A → B → Type 0) (xs : List A) (ys : List B) (x : A) (y : B) → AllZip R xs ys → R x y → AllZip R (xs ++ x ∷ []) (ys ++ y ∷ [])
zip_more R [] [] x y p q = (q, tt)
zip_more R [] (b ∷ ys) x y p q = absurd p
zip_more R (a ∷ xs) [] x y p q = absurd p
zip_more R (a ∷ xs) (b ∷ ys) x y p q = (p.0, zip_more R xs ys x y p.1 q)

pub zip_map : {A B : Type 0} (P Q : A → B → Type 0) (xs : List A) (ys : List B) → ((x : A) (y : B) → P x y → Q x y) → AllZip P xs ys → AllZip Q xs ys
zip_map P Q [] [] f p = tt
zip_map P Q [] (b ∷ ys) f p = absurd p
zip_map P Q (a ∷ xs) [] f p = absurd p
zip_map P Q (a ∷ xs) (b ∷ ys) f p = (f a b p.0, zip_map P Q xs ys f p.1)

pub zip_same : {A : Type 0} (R : A → A → Type 0) (xs : List A) → ((x : A) → R x x) → AllZip R xs xs
zip_same R [] f = tt
zip_same R (x ∷ xs) f = (f x, zip_same R xs f)

pub zip_then : {A B C : Type 0} (P : A → B → Type 0) (Q : B → C → Type 0) (R : A → C → Type 0) (xs : List A) (ys : List B) (zs : List C)
    → ((x : A) (y : B) (z : C) → P x y → Q y z → R x z) → AllZip P xs ys → AllZip Q ys zs → AllZip R xs zs
zip_then P Q R [] [] [] f p q = tt
zip_then P Q R [] [] (z ∷ zs) f p q = absurd q
zip_then P Q R [] (y ∷ ys) zs f p q = absurd p
zip_then P Q R (x ∷ xs) [] zs f p q = absurd p
zip_then P Q R (x ∷ xs) (y ∷ ys) [] f p q = absurd q
zip_then P Q R (x ∷ xs) (y ∷ ys) (z ∷ zs) f p q = (f x y z p.0 q.0, zip_then P Q R xs ys zs f p.1 q.1)

-- one more element of a list is written, where those from it on are still as they were
pub zip_written : {A : Type 0} (R : A → A → Type 0) (xs ys : List A) (i : ℕ) (d y : A) → i < length xs → i < length ys → drop i ys ≡ drop i xs
    → AllZip R (take i xs) (take i ys) → R (get_or ys i d) y → AllZip R (take (i + 1) xs) (take (i + 1) (set ys i y))
zip_written R xs ys i d y here there e p q =
    rw (take_next xs i d here, take_more_set ys i y there)
    (zip_more R (take i xs) (take i ys) (get_or xs i d) y p (subst (λ x. R x y) (same_next xs ys i d here there e).0 q))
