-- Words with no separator in them, and their parts.
use Rattle.std.proofs.Common.{◌≡◌, ℕ, ◌<◌, ◌/◌, ◌%◌, ◌^◌, List, [], ◌∷◌, ◌++◌, length, Bool, true, false, not, ◌&&◌, ◌==◌, nat_lt, refl, sym, ap, ◌∙◌, subst, arith, inl, inr, ◌⊎◌}
use Rattle.std.specs.List.{list_all, slice_split, onto_first, join_with_byte}
use Rattle.std.specs.Char.{is_ascii_digit}
use Rattle.std.specs.Fmt.{decimal}
use Rattle.std.proofs.lemmas.Bool.{and_parts, and_from, eqb-true, eq-eqb, not-true, cases_Bool}
use Rattle.std.specs.Int.{is_in_range}
use Rattle.std.proofs.lemmas.Bool.Decides.{nat_tests}
use Rattle.std.proofs.lemmas.Fmt.{digits_decimal}
use Rattle.std.proofs.lemmas.List.Splits.{slice_split-cons_yes, slice_split-cons_no}
use Rattle.lock_word.specs.Names.{hex_digit}
use Rattle.script_text.specs.Words.{is_name_byte, is_name, low_text}
use Rattle.script_text.proofs.Numerals.{own}

-- a printable byte that is no space
abbrev pub is_plain_byte : ℕ → Bool
is_plain_byte b = nat_lt 32 b && nat_lt b 127

abbrev pub is_plain : List ℕ → Bool
is_plain bs = list_all is_plain_byte bs

pub list_all-weaker : (p q : ℕ → Bool) → ((b : ℕ) → p b ≡ true → q b ≡ true) → (xs : List ℕ) → list_all p xs ≡ true → list_all q xs ≡ true
list_all-weaker p q f [] h = refl
list_all-weaker p q f (x ∷ xs) h = let parts = and_parts (p x) _ h in and_from _ _ (f x parts.0) (list_all-weaker p q f xs parts.1)

digit_plain : (b : ℕ) → is_ascii_digit b ≡ true → is_plain_byte b ≡ true
digit_plain b h = grind (arith, nat_tests)

name_plain_byte : (b : ℕ) → is_name_byte b ≡ true → is_plain_byte b ≡ true
name_plain_byte b h = grind (arith, nat_tests)

letter_plain : (b : ℕ) → is_in_range 97 122 b ≡ true → is_plain_byte b ≡ true
letter_plain b h = grind (arith, nat_tests)

pub decimal_plain : (n : ℕ) → n < 2 ^ 64 → is_plain (decimal n) ≡ true
decimal_plain n small = list_all-weaker _ _ digit_plain (decimal n) (digits_decimal own n small)

pub name_plain : (name : List ℕ) → is_name name ≡ true → is_plain name ≡ true
name_plain [] h = refl
name_plain (c ∷ cs) h =
    let parts = and_parts _ _ h in
    and_from _ _ (letter_plain c (and_parts _ _ parts.0).0) (list_all-weaker _ _ name_plain_byte cs parts.1)

hex_plain : (d : ℕ) → d < 16 → is_plain_byte (hex_digit d) ≡ true
hex_plain d small = grind (arith, nat_tests)

pub low_plain : (n : ℕ) → n < 256 → is_plain (low_text n) ≡ true
low_plain n small = and_from _ _ (hex_plain (n / 16) (omega arith)) (and_from _ _ (hex_plain (n % 16) (omega arith)) refl)

-- a part that has no separator ends at the separator
pub split_at_sep : (s : ℕ) (xs ys : List ℕ) → list_all (λ b. not (b == s)) xs ≡ true → slice_split (λ b. b == s) (xs ++ s ∷ ys) ≡ xs ∷ slice_split (λ b. b == s) ys
split_at_sep s [] ys h = slice_split-cons_yes (λ b. b == s) s ys (eq-eqb s s refl)
split_at_sep s (x ∷ xs) ys h =
    let parts = and_parts (not (x == s)) _ h in
    rw (slice_split-cons_no (λ b. b == s) x (xs ++ s ∷ ys) (not-true _ parts.0), split_at_sep s xs ys parts.1) refl

pub split_none : (s : ℕ) (xs : List ℕ) → list_all (λ b. not (b == s)) xs ≡ true → slice_split (λ b. b == s) xs ≡ xs ∷ []
split_none s [] h = refl
split_none s (x ∷ xs) h =
    let parts = and_parts (not (x == s)) _ h in
    rw (slice_split-cons_no (λ b. b == s) x xs (not-true _ parts.0), split_none s xs parts.1) refl

no_space : (b : ℕ) → is_plain_byte b ≡ true → not (b == 32) ≡ true
no_space b h = grind (arith, nat_tests)

-- words are the parts of the text that they make
abbrev pub ArePlain : List (List ℕ) → Type 0
ArePlain [] = Unit {0}
ArePlain (w ∷ ws) = (is_plain w ≡ true) × ArePlain ws

pub split_join : (ws : List (List ℕ)) → 0 < length ws → ArePlain ws → slice_split (λ b. b == 32) (join_with_byte 32 ws) ≡ ws
split_join [] long h = absurd (omega arith)
split_join (w ∷ []) long h = split_none 32 w (list_all-weaker _ _ no_space w h.0)
split_join (w ∷ v ∷ ws) long h = split_at_sep 32 w (join_with_byte 32 (v ∷ ws)) (list_all-weaker _ _ no_space w h.0) ∙ ap (λ (rest : List (List ℕ)). w ∷ rest) (split_join (v ∷ ws) (omega arith) h.1)

list_all-append : (p : ℕ → Bool) (xs ys : List ℕ) → list_all p xs ≡ true → list_all p ys ≡ true → list_all p (xs ++ ys) ≡ true
list_all-append p [] ys h k = k
list_all-append p (x ∷ xs) ys h k = let parts = and_parts (p x) _ h in and_from _ _ parts.0 (list_all-append p xs ys parts.1 k)

-- bytes of a line: printable
abbrev pub is_line_byte : ℕ → Bool
is_line_byte b = nat_lt 31 b && nat_lt b 127

line_byte : (b : ℕ) → is_plain_byte b ≡ true → is_line_byte b ≡ true
line_byte b h = grind (arith, nat_tests)

pub joined_printable : (ws : List (List ℕ)) → ArePlain ws → list_all is_line_byte (join_with_byte 32 ws) ≡ true
joined_printable [] h = refl
joined_printable (w ∷ []) h = list_all-weaker _ _ line_byte w h.0
joined_printable (w ∷ v ∷ ws) h = list_all-append _ w _ (list_all-weaker _ _ line_byte w h.0) (joined_printable (v ∷ ws) h.1)

no_feed : (b : ℕ) → is_line_byte b ≡ true → not (b == 10) ≡ true
no_feed b h = grind (arith, nat_tests)

pub printable_no_feed : (xs : List ℕ) → list_all is_line_byte xs ≡ true → list_all (λ b. not (b == 10)) xs ≡ true
printable_no_feed = list_all-weaker _ _ no_feed

-- the first of two or more parts, and the list that the others are the parts of
abbrev pub TailOf : ℕ → List ℕ → List ℕ → List ℕ → List (List ℕ) → Type 0
TailOf s bs part q ps = (rest : List ℕ) × (bs ≡ part ++ s ∷ rest) × (slice_split (λ b. b == s) rest ≡ q ∷ ps)

tail_here : (s x : ℕ) (xs part q : List ℕ) (ps parts : List (List ℕ)) → x ≡ s → slice_split (λ b. b == s) xs ≡ parts → [] ∷ parts ≡ part ∷ q ∷ ps → TailOf s (x ∷ xs) part q ps
tail_here s x xs [] q ps parts same split e = (xs, ap (λ (y : ℕ). y ∷ xs) same, split ∙ cc)
tail_here s x xs (y ∷ ys) q ps parts same split e = absurd (cc)

onto_tail : (s x : ℕ) (xs front q : List ℕ) (ps : List (List ℕ)) → TailOf s xs front q ps → TailOf s (x ∷ xs) (x ∷ front) q ps
onto_tail s x xs front q ps t = (t.0, ap (λ (l : List ℕ). x ∷ l) t.1, t.2)

tail_on : (s x : ℕ) (xs part q : List ℕ) (ps parts : List (List ℕ)) → ((front : List ℕ) → slice_split (λ b. b == s) xs ≡ front ∷ q ∷ ps → TailOf s xs front q ps)
    → slice_split (λ b. b == s) xs ≡ parts → onto_first x parts ≡ part ∷ q ∷ ps → TailOf s (x ∷ xs) part q ps
tail_on s x xs part q ps [] more split e = absurd (cc)
tail_on s x xs part q ps (front ∷ []) more split e = absurd (cc)
tail_on s x xs part q ps (front ∷ r ∷ rs) more split e =
    let same : r ∷ rs ≡ q ∷ ps = cc in
    let whole : slice_split (λ b. b == s) xs ≡ front ∷ q ∷ ps = split ∙ ap (λ (l : List (List ℕ)). front ∷ l) same in
    let first : x ∷ front ≡ part = cc in
    subst (λ (l : List ℕ). TailOf s (x ∷ xs) l q ps) first (onto_tail s x xs front q ps (more front whole))

pub split_tail : (s : ℕ) (bs part q : List ℕ) (ps : List (List ℕ)) → slice_split (λ b. b == s) bs ≡ part ∷ q ∷ ps → TailOf s bs part q ps
split_tail s [] part q ps e = absurd (cc)
split_tail s (x ∷ xs) part q ps e =
    tail_by (cases_Bool (x == s)) (λ front whole. split_tail s xs front q ps whole)
  where
    tail_by : ((x == s) ≡ true) ⊎ ((x == s) ≡ false) → ((front : List ℕ) → slice_split (λ b. b == s) xs ≡ front ∷ q ∷ ps → TailOf s xs front q ps) → TailOf s (x ∷ xs) part q ps
    tail_by (inl here) more = tail_here s x xs part q ps (slice_split (λ b. b == s) xs) (eqb-true x s here) refl (sym (slice_split-cons_yes (λ b. b == s) x xs here) ∙ e)
    tail_by (inr later) more = tail_on s x xs part q ps (slice_split (λ b. b == s) xs) more refl (sym (slice_split-cons_no (λ b. b == s) x xs later) ∙ e)
