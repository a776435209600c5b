-- Parts of paths, and what is cleared of them.
use Rattle.std.specs.Prelude.{◌≡◌, ◌⊎◌, ℕ, ◌<◌, Bool, true, false, List, [], ◌∷◌, ◌++◌, length, slice_set}
use Rattle.std.proofs.Common.{refl, inl, inr, sym, ap, subst, ◌∙◌, arith, zero, suc, ◌+◌, get_or, take, drop, append-nil}
use Rattle.std.proofs.lemmas.Bool.{cases_eq}
use Rattle.std.proofs.lemmas.List.{get_or-set_same, get_or-set_other, length-set, take_more, take_all, drop_all}
use Rattle.owner_cycles.specs.Rows.{IsIn, is_seen, IsPartFrom, AreCleared}
use Rattle.owner_cycles.proofs.Walks.{in_push, in_end, in_front}

pub cleared_more : (before seen : List Bool) (part : List ℕ) (v : ℕ) → AreCleared before seen part → v < length seen → AreCleared before (slice_set seen v false) (part ++ v ∷ [])
cleared_more before seen part v c within = record {
  cleared = λ u i h. by_part u h (in_push u v part i) (cases_eq u v);
  kept = λ u other. get_or-set_other seen v u false false (λ same. other (subst (λ (n : ℕ). IsIn n (part ++ v ∷ [])) (sym same) (in_end v part))) ∙ c.kept u (λ i. other (in_front u v part i));
  long = length-set seen v false ∙ c.long;
}
  where
    now_off : (u : ℕ) → u ≡ v → is_seen (slice_set seen v false) u ≡ true → ⊥
    now_off u same h =
        let off : is_seen (slice_set seen v false) v ≡ false = get_or-set_same seen v false false within in
        let never : false ≡ true = sym off ∙ ap (is_seen (slice_set seen v false)) (sym same) ∙ h in absurd (cc)

    by_part : (u : ℕ) → is_seen (slice_set seen v false) u ≡ true → IsIn u part ⊎ (u ≡ v) → (u ≡ v) ⊎ (u ≡ v → ⊥) → ⊥
    by_part u h (inr same) number = now_off u same h
    by_part u h (inl i) (inl same) = now_off u same h
    by_part u h (inl i) (inr other) = c.cleared u i (sym (get_or-set_other seen v u false false other) ∙ h)

pub cleared_next : (before seen : List Bool) (part : List ℕ) (i : ℕ) → i < length part → AreCleared before seen (take i part) → get_or part i 0 < length seen
    → AreCleared before (slice_set seen (get_or part i 0) false) (take (i + 1) part)
cleared_next before seen part i within c inside =
    subst (λ (l : List ℕ). AreCleared before (slice_set seen (get_or part i 0) false) l) (sym (take_more part i 0 within)) (cleared_more before seen (take i part) (get_or part i 0) c inside)

pub in_at : (xs : List ℕ) (i d : ℕ) → i < length xs → IsIn (get_or xs i d) xs
in_at [] i d within = absurd (omega (arith, within))
in_at (x ∷ xs) zero d within = inl refl
in_at (x ∷ xs) (suc i) d within = inr (in_at xs i d (omega (arith, within)))

pub not_yet : (path : List ℕ) (position v d : ℕ) → position < length path → (IsIn v (take position path) → ⊥) → (get_or path position d ≡ v → ⊥) → IsIn v (take (position + 1) path) → ⊥
not_yet path position v d within before other i = by_case (in_push v (get_or path position d) (take position path) (subst (IsIn v) (take_more path position d within) i))
  where
    by_case : IsIn v (take position path) ⊎ (v ≡ get_or path position d) → ⊥
    by_case (inl j) = before j
    by_case (inr same) = other (sym same)

pub part_none : (path : List ℕ) (position v : ℕ) → length path < position + 1 → (IsIn v (take position path) → ⊥) → IsPartFrom v path []
part_none path position v all before = inl (refl, λ i. before (subst (IsIn v) (sym (take_all position path (omega (arith, all)))) i))

-- a slice of all of a vector, once it is written back
pub whole_again : {A : Type 0} (ws items : List A) (n : ℕ) → length ws ≡ length items → n ≡ length items → take n (ws ++ drop (length ws) items) ≡ ws
whole_again ws items n long all =
    let rest : drop (length ws) items ≡ [] = drop_all (length ws) items (omega (arith, long)) in
    ap (λ l. take n (ws ++ l)) rest ∙ ap (take n) (append-nil ws) ∙ take_all n ws (omega (arith, long, all))
