-- A line for each name, with what stands at its position: one name more.
use Rattle.std.proofs.Common.{◌≡◌, ℕ, zero, suc, ◌+◌, ◌<◌, List, [], ◌∷◌, ◌++◌, length, take, get_or, map, sym, ap, ◌∙◌, arith, append-nil, append_assoc}
use Rattle.live_runs.specs.Texts.{each_text}

each_suc : {X Y Z : Type 0} (line : List ℕ → X → List ℕ) (f : Y → List ℕ) (g : Z → X) (ns : List Y) (xs : List Z) (i : ℕ) (dn : Y) (dx : Z) → i < length ns → length xs ≡ length ns
    → each_text line (map f (take (suc i) ns)) (map g (take (suc i) xs)) ≡ each_text line (map f (take i ns)) (map g (take i xs)) ++ line (f (get_or ns i dn)) (g (get_or xs i dx))
each_suc line f g [] xs i dn dx within same = absurd (omega (arith, within))
each_suc line f g (n ∷ ns) [] i dn dx within same = absurd (omega (arith, same))
each_suc line f g (n ∷ ns) (x ∷ xs) zero dn dx within same = append-nil (line (f n) (g x))
each_suc line f g (n ∷ ns) (x ∷ xs) (suc i) dn dx within same =
    ap (λ t. line (f n) (g x) ++ t) (each_suc line f g ns xs i dn dx (omega (arith, within)) (omega (arith, same)))
    ∙ sym (append_assoc (line (f n) (g x)) (each_text line (map f (take i ns)) (map g (take i xs))) (line (f (get_or ns i dn)) (g (get_or xs i dx))))

pub each_more : {X Y Z : Type 0} (line : List ℕ → X → List ℕ) (f : Y → List ℕ) (g : Z → X) (ns : List Y) (xs : List Z) (i : ℕ) (dn : Y) (dx : Z) (before old new : List ℕ)
    → i < length ns → length xs ≡ length ns → old ≡ before ++ each_text line (map f (take i ns)) (map g (take i xs)) → new ≡ old ++ line (f (get_or ns i dn)) (g (get_or xs i dx))
    → new ≡ before ++ each_text line (map f (take (i + 1) ns)) (map g (take (i + 1) xs))
each_more line f g ns xs i dn dx before old new within same so_far more =
    let one : i + 1 ≡ suc i = omega arith in
    let row = each_suc line f g ns xs i dn dx within same in
    let here = line (f (get_or ns i dn)) (g (get_or xs i dx)) in
    more ∙ ap (λ t. t ++ here) so_far ∙ append_assoc before (each_text line (map f (take i ns)) (map g (take i xs))) here ∙ ap (λ t. before ++ t) (sym row)
    ∙ ap (λ k. before ++ each_text line (map f (take k ns)) (map g (take k xs))) (sym one)
