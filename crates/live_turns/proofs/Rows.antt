-- Rows that are taken over from the back.
use Rattle.std.specs.Prelude.{◌≡◌, ℕ, [], ◌∷◌, ◌++◌, List, length, map, reverse}
use Rattle.std.proofs.Common.{zero, suc, refl, sym, ◌∙◌, ap}
use Rattle.header_words.specs.Passes.{Opening, new_passes}
use Rattle.std.proofs.lemmas.List.{append_assoc, map-append, reverse-append}

pub moved_over : {A B : Type 0} (f : A → B) (xs w : List A) (x : A) (ps all : List B) → xs ≡ w ++ x ∷ [] → map f xs ++ reverse ps ≡ all → map f w ++ reverse (ps ++ f x ∷ []) ≡ all
moved_over f xs w x ps all e h =
    ap (λ zs. map f w ++ zs) (reverse-append ps (f x ∷ [])) ∙ (sym (append_assoc (map f w) (f x ∷ []) (reverse ps))
    ∙ (ap (λ zs. zs ++ reverse ps) (sym (map-append f w (x ∷ []))) ∙ (ap (λ zs. map f zs ++ reverse ps) (sym e) ∙ h)))

pub length-new_passes : (z : Opening) (i n : ℕ) → length (new_passes z i n) ≡ n
length-new_passes z i zero = refl
length-new_passes z i (suc n) = ap suc (length-new_passes z (suc i) n)
