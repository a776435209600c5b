-- The name in front of some bytes.
use Rattle.std.proofs.Common.{◌≡◌, ◌≤◌, ℕ, suc, List, [], ◌∷◌, length, take, get_or, Bool, true, false, not, nat_lt, Some, refl, sym, ap, subst, ◌∙◌, arith, position}
use Rattle.std.specs.Int.{is_in_range}
use Rattle.std.specs.List.{list_all, position_or_len}
use Rattle.std.proofs.lemmas.Bool.{and_from, and_parts, lt-ltb}
use Rattle.std.proofs.lemmas.Option.{cond_some}
use Rattle.script_text.specs.Words.{is_name_byte, is_name}

-- how many bytes come before the first that stands in no name
abbrev front_len : List ℕ → ℕ
front_len bs = position_or_len (λ b. not (is_name_byte b)) bs

front_more : (b : ℕ) (bs : List ℕ) (right : Bool) → is_name_byte b ≡ right → list_all is_name_byte (take (front_len bs) bs) ≡ true
    → list_all is_name_byte (take (front_len (b ∷ bs)) (b ∷ bs)) ≡ true
front_more b bs true e rest =
    let more : front_len (b ∷ bs) ≡ suc (front_len bs) = rw e (omega arith) in
    subst (λ (n : ℕ). list_all is_name_byte (take n (b ∷ bs)) ≡ true) (sym more) (and_from _ _ e rest)
front_more b bs false e rest = rw e refl

front_bytes : (bs : List ℕ) → list_all is_name_byte (take (front_len bs) bs) ≡ true
front_bytes [] = refl
front_bytes (b ∷ bs) = front_more b bs (is_name_byte b) refl (front_bytes bs)

named_by : (word : List ℕ) → list_all is_name_byte word ≡ true → 1 ≤ length word → length word ≤ 32 → is_in_range 97 122 (get_or word 0 0) ≡ true → is_name word ≡ true
named_by [] all some few letter = absurd (omega (arith, some))
named_by (c ∷ cs) all some few letter = and_from _ _ (and_from _ _ letter (lt-ltb (length cs) 32 (omega (arith, few)))) (and_parts _ _ all).1

pub front_name : (bs word : List ℕ) (i : ℕ) → position (λ b. not (is_name_byte b)) bs ≡ Some i → word ≡ take i bs → 1 ≤ length word → length word ≤ 32
    → is_in_range 97 122 (get_or word 0 0) ≡ true → is_name word ≡ true
front_name bs word i found front some few letter =
    let at = cond_some (nat_lt (front_len bs) (length bs)) (front_len bs) i found in
    named_by word (ap (list_all is_name_byte) (front ∙ ap (λ (k : ℕ). take k bs) (sym at.1)) ∙ front_bytes bs) some few letter
