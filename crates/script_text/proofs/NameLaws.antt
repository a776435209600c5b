-- Names in a set of texts.
use Rattle.std.proofs.Common.{◌≡◌, ℕ, List, [], ◌∷◌, ◌++◌, map, Bool, true, false, ◌||◌, cond, Some, option_map, refl, sym, ap, ◌∙◌, string_bytes, slice_get}
use Rattle.std.specs.Prelude.{String}
use Rattle.std.specs.declared.alloc.Global.{Global}
use Rattle.std.specs.List.{list_any}
use Rattle.std.specs.Str.{bytes_eq}
use Rattle.std.proofs.lemmas.Option.{slice_get-map}
use Rattle.std.proofs.lemmas.Slice.Eq.{bytes_eq-Decides}
use Rattle.script_text.specs.Names.{with_name}

pub any_named : (name : List ℕ) (keys : List (String Global)) → list_any (λ k. bytes_eq name (string_bytes k)) keys ≡ list_any (λ n. bytes_eq name n) (map string_bytes keys)
any_named name [] = refl
any_named name (k ∷ keys) = ap (λ (b : Bool). bytes_eq name (string_bytes k) || b) (any_named name keys)

map-append : (xs ys : List (String Global)) → map string_bytes (xs ++ ys) ≡ map string_bytes xs ++ map string_bytes ys
map-append [] ys = refl
map-append (x ∷ xs) ys = ap (λ (l : List (List ℕ)). string_bytes x ∷ l) (map-append xs ys)

chosen_names : (b : Bool) (keys : List (String Global)) (text : String Global) → map string_bytes (cond b keys (keys ++ text ∷ [])) ≡ cond b (map string_bytes keys) (map string_bytes keys ++ string_bytes text ∷ [])
chosen_names true keys text = refl
chosen_names false keys text = map-append keys (text ∷ [])

pub names_kept : (keys new : List (String Global)) (text : String Global) (name : List ℕ) → string_bytes text ≡ name
    → new ≡ cond (list_any (λ k. bytes_eq (string_bytes text) (string_bytes k)) keys) keys (keys ++ text ∷ []) → map string_bytes new ≡ with_name (map string_bytes keys) name
names_kept keys new text name same e =
    ap (map string_bytes) e ∙ chosen_names (list_any (λ k. bytes_eq (string_bytes text) (string_bytes k)) keys) keys text
    ∙ ap (λ (b : Bool). cond b (map string_bytes keys) (map string_bytes keys ++ string_bytes text ∷ [])) (any_named (string_bytes text) keys)
    ∙ ap (with_name (map string_bytes keys)) same

pub name_stored : (keys : List (String Global)) (n : ℕ) (k text : String Global) (name : List ℕ) → string_bytes text ≡ name → slice_get keys n ≡ Some k → bytes_eq (string_bytes text) (string_bytes k) ≡ true
    → slice_get (map string_bytes keys) n ≡ Some name
name_stored keys n k text name same at eq =
    slice_get-map string_bytes keys n ∙ ap (option_map string_bytes) at ∙ ap (λ (l : List ℕ). Some l) (sym ((bytes_eq-Decides (string_bytes text) (string_bytes k)).0 eq) ∙ same)
