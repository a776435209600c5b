-- Names in a set of texts.
use Rattle.std.proofs.Common.{◌≡◌, ℕ, zero, suc, ◌+◌, ◌<◌, ◌≤◌, get_or, subst, List, [], ◌∷◌, ◌++◌, map, length, Bool, true, false, not, ◌||◌, cond, nat_lt, Some, None, refl, sym, ap, ◌∙◌, string_bytes, arith}
use Rattle.std.specs.Prelude.{String}
use Rattle.std.specs.declared.alloc.Global.{Global}
use Rattle.std.specs.List.{IsDistinct, list_any, position, position_or_len}
use Rattle.std.specs.Str.{bytes_eq}
use Rattle.std.specs.String.{string_eq}
use Rattle.std.proofs.lemmas.Bool.{ltb-false, false≢true}
use Rattle.std.proofs.lemmas.Map.Keys.{apart_from_distinct, IsDistinct-tail}
use Rattle.std.proofs.lemmas.Slice.Eq.{bytes_eq-Decides}
use Rattle.std.proofs.lemmas.List.Sums.{prefix_len-le-length}
use Rattle.std.proofs.lemmas.Option.{cond_some}
use Rattle.script_text.specs.Names.{is_named, position_of, with_name}

-- the test by which a set finds a name
abbrev pub is_text : List ℕ → String Global → Bool
is_text name text = bytes_eq name (string_bytes text)

pub any_named : (name : List ℕ) (texts : List (String Global)) → list_any (is_text name) texts ≡ is_named (map string_bytes texts) name
any_named name [] = refl
any_named name (x ∷ xs) = ap (λ (b : Bool). bytes_eq name (string_bytes x) || b) (any_named name xs)

pub position_named : (name : List ℕ) (texts : List (String Global)) → position_or_len (is_text name) texts ≡ position_of (map string_bytes texts) name
position_named name [] = refl
position_named name (x ∷ xs) = ap (λ (n : ℕ). cond (not (bytes_eq name (string_bytes x))) (1 + n) 0) (position_named name xs)

-- where a set finds a name, that is its number
pub found_number : (name : List ℕ) (texts : List (String Global)) (n : ℕ) → Some n ≡ position (is_text name) texts → n ≡ position_of (map string_bytes texts) name
found_number name texts n e = sym (cond_some _ _ _ (sym e)).1 ∙ position_named name texts

past_end : (b : Bool) (m n : ℕ) → nat_lt m n ≡ b → m ≤ n → None ≡ cond b (Some m) None → n ≡ m
past_end true m n is fits e = absurd (cc)
past_end false m n is fits e = let above : n ≤ m = ltb-false m n is in omega (arith, above, fits)

-- where it finds none, the number is that of the next one
pub absent_number : (name : List ℕ) (texts : List (String Global)) → None ≡ position (is_text name) texts → length texts ≡ position_of (map string_bytes texts) name
absent_number name texts e = past_end (nat_lt (position_or_len (is_text name) texts) (length texts)) _ _ refl (prefix_len-le-length (λ text. not (is_text name text)) texts) e ∙ position_named name texts

map-append : (xs ys : List (String Global)) → map string_bytes (xs ++ ys) ≡ map string_bytes xs ++ map string_bytes ys
map-append [] ys = refl
map-append (x ∷ xs) ys = ap (λ (l : List (List ℕ)). string_bytes x ∷ l) (map-append xs ys)

chosen_names : (b : Bool) (texts : List (String Global)) (text : String Global) → map string_bytes (cond b texts (texts ++ text ∷ [])) ≡ cond b (map string_bytes texts) (map string_bytes texts ++ string_bytes text ∷ [])
chosen_names true texts text = refl
chosen_names false texts text = map-append texts (text ∷ [])

pub names_kept : (texts new : List (String Global)) (text : String Global) (name : List ℕ) → string_bytes text ≡ name
    → new ≡ cond (list_any (is_text (string_bytes text)) texts) texts (texts ++ text ∷ []) → map string_bytes new ≡ with_name (map string_bytes texts) name
names_kept texts new text name same e =
    ap (map string_bytes) e ∙ chosen_names (list_any (is_text (string_bytes text)) texts) texts text
    ∙ ap (λ (b : Bool). cond b (map string_bytes texts) (map string_bytes texts ++ string_bytes text ∷ [])) (any_named (string_bytes text) texts)
    ∙ ap (with_name (map string_bytes texts)) same

differs_too : (a b : List ℕ) → bytes_eq a b ≡ false → bytes_eq b a ≡ false
differs_too a b differ = by (bytes_eq b a) refl
  where
    by : (r : Bool) → bytes_eq b a ≡ r → r ≡ false
    by true same = absurd (false≢true (sym differ ∙ (bytes_eq-Decides a b).1 (sym ((bytes_eq-Decides b a).0 same))))
    by false same = refl

-- where no two names are equal, a name stands at no other position than its own
own_position : (texts : List (String Global)) (n : ℕ) (d : String Global) → IsDistinct string_eq texts → n < length texts
    → (n ≡ position_or_len (is_text (string_bytes (get_or texts n d))) texts) × (list_any (is_text (string_bytes (get_or texts n d))) texts ≡ true)
own_position [] n d apart within = absurd (omega (arith, within))
own_position (x ∷ xs) zero d apart within =
    let same = (bytes_eq-Decides (string_bytes x) (string_bytes x)).1 refl in
    (rw same refl, rw same refl)
own_position (x ∷ xs) (suc n) d apart within =
    let rest = own_position xs n d (IsDistinct-tail string_eq x xs apart) (omega (arith, within)) in
    let differ = differs_too (string_bytes x) (string_bytes (get_or xs n d)) (apart_from_distinct string_eq (x ∷ xs) 0 (suc n) d apart (omega arith) within) in
    (rw differ (add-one-left n ∙ ap (λ (m : ℕ). 1 + m) rest.0), rw differ rest.1)
  where
    add-one-left : (m : ℕ) → suc m ≡ 1 + m
    add-one-left m = omega arith

-- what a hint says is right where the name with its number is the one
pub hint_is : (name : List ℕ) (texts : List (String Global)) (n : ℕ) (text : String Global) → IsDistinct string_eq texts → n < length texts → text ≡ get_or texts n text
    → bytes_eq (string_bytes text) name ≡ true → (n ≡ position_of (map string_bytes texts) name) × (is_named (map string_bytes texts) name ≡ true)
hint_is name texts n text apart within there same =
    let P : List ℕ → Type 0 = λ word. (n ≡ position_or_len (is_text word) texts) × (list_any (is_text word) texts ≡ true) in
    let found = subst P (sym (ap string_bytes there) ∙ (bytes_eq-Decides (string_bytes text) name).0 same) (own_position texts n text apart within) in
    (found.0 ∙ position_named name texts, sym (any_named name texts) ∙ found.1)
