-- Names in a row of texts.
use Rattle.std.proofs.Common.{◌≡◌, ℕ, List, [], ◌∷◌, map, Bool, ◌||◌, Bor, refl, sym, ap, ◌∙◌}
use Rattle.std.specs.List.{list_any}
use Rattle.std.specs.Str.{bytes_eq}
use Rattle.std.proofs.lemmas.Bool.Decides.{same_from_decides}
use Rattle.std.proofs.lemmas.Slice.Eq.{bytes_eq-Decides}
use Rattle.script_text.specs.Names.{is_named}

bytes_eq-sym : (xs ys : List ℕ) → bytes_eq xs ys ≡ bytes_eq ys xs
bytes_eq-sym xs ys =
    let back = bytes_eq-Decides ys xs in
    same_from_decides {P = xs ≡ ys} (bytes_eq xs ys) (bytes_eq ys xs) (bytes_eq-Decides xs ys) ((λ eq. sym (back.0 eq)), (λ same. back.1 (sym same)))

pub any_text : (name : List ℕ) (texts : List (Bor (List ℕ))) → list_any (λ t. bytes_eq t.now name) texts ≡ is_named (map (λ t. t.now) texts) name
any_text name [] = refl
any_text name (t ∷ ts) =
    ap (λ (b : Bool). bytes_eq t.now name || b) (any_text name ts)
    ∙ ap (λ (b : Bool). b || is_named (map (λ t. t.now) ts) name) (bytes_eq-sym t.now name)
