-- The ends that come first with their texts.
use Rattle.std.proofs.Common.{◌≡◌, ◌∙◌, refl, sym, ap, subst, ℕ, zero, suc, ◌+◌, ◌<◌, ◌≤◌, Bool, true, false, not, ◌||◌, if◌then◌else◌, List, [], ◌∷◌, ◌++◌, length, All, arith, length-append}
use Rattle.std.proofs.Math.Bool.{or_assoc}
use Rattle.std.proofs.lemmas.List.{append-nil}
use Rattle.std.proofs.lemmas.List.Elements.{All-nil, All-cons, All-append}
use Rattle.std.proofs.lemmas.Slice.Eq.{bytes_eq-Decides}
use Rattle.std.specs.Str.{bytes_eq}
use Rattle.explore_runs.specs.Reports.{is_among, is_first, outcomes_among, text_at, times_among}

-- the first of the ends that have each text, in rising order
abbrev pub firsts : List (List ℕ) → ℕ → List ℕ
firsts texts zero = []
firsts texts (suc n) = firsts texts n ++ (if is_first texts n then n ∷ [] else [])

-- one of these ends has this text
abbrev pub has_text : List (List ℕ) → List ℕ → List ℕ → Bool
has_text texts text [] = false
has_text texts text (i ∷ is) = bytes_eq text (text_at texts i) || has_text texts text is

-- no two of these ends have one text
abbrev pub AreApart : List (List ℕ) → List ℕ → Type 0
AreApart texts [] = Unit {0}
AreApart texts (i ∷ is) = (has_text texts (text_at texts i) is ≡ false) × AreApart texts is

-- what an end more adds to a count
abbrev pub one_where : Bool → ℕ
one_where b = if b then 1 else 0

pub same_both : (a b : List ℕ) → bytes_eq a b ≡ bytes_eq b a
same_both a b = by (bytes_eq a b) (bytes_eq b a) refl refl
  where
    by : (x y : Bool) → bytes_eq a b ≡ x → bytes_eq b a ≡ y → x ≡ y
    by true true e f = refl
    by false false e f = refl
    by true false e f = sym ((bytes_eq-Decides b a).1 (sym ((bytes_eq-Decides a b).0 e))) ∙ f
    by false true e f = sym e ∙ (bytes_eq-Decides a b).1 (sym ((bytes_eq-Decides b a).0 f))

pub both_false : (a b : Bool) → (a || b) ≡ false → (a ≡ false) × (b ≡ false)
both_false true b h = absurd (cc)
both_false false b h = (refl, h)

or_false : (a : Bool) → (a || false) ≡ a
or_false true = refl
or_false false = refl

has_text_append : (texts : List (List ℕ)) (text is js : List ℕ)
    → has_text texts text (is ++ js) ≡ (has_text texts text is || has_text texts text js)
has_text_append texts text [] js = refl
has_text_append texts text (i ∷ is) js =
    ap (λ (b : Bool). bytes_eq text (text_at texts i) || b) (has_text_append texts text is js)
    ∙ sym (or_assoc (bytes_eq text (text_at texts i)) (has_text texts text is) (has_text texts text js))

one_has : (texts : List (List ℕ)) (text : List ℕ) (n : ℕ) → has_text texts text (n ∷ []) ≡ bytes_eq (text_at texts n) text
one_has texts text n = or_false (bytes_eq text (text_at texts n)) ∙ same_both text (text_at texts n)

-- an end with a text that no end before it has comes first with it
new_has : (texts : List (List ℕ)) (text : List ℕ) (n : ℕ) → is_among texts text n ≡ false
    → has_text texts text (if is_first texts n then n ∷ [] else []) ≡ bytes_eq (text_at texts n) text
new_has texts text n none = by (bytes_eq (text_at texts n) text) refl
  where
    either : (b : Bool) → bytes_eq (text_at texts n) text ≡ false
        → has_text texts text (if b then n ∷ [] else []) ≡ false
    either true e = one_has texts text n ∙ e
    either false e = refl

    by : (b : Bool) → bytes_eq (text_at texts n) text ≡ b
        → has_text texts text (if is_first texts n then n ∷ [] else []) ≡ b
    by true e =
        let same : text_at texts n ≡ text = (bytes_eq-Decides (text_at texts n) text).0 e in
        let first : is_first texts n ≡ true =
        ap not (subst (λ (t : List ℕ). is_among texts t n ≡ false) (sym same) none) in
        ap (λ (b : Bool). has_text texts text (if b then n ∷ [] else [])) first ∙ one_has texts text n ∙ e
    by false e = either (is_first texts n) e

-- one of the ends that come first has a text where any end has
pub firsts_have : (texts : List (List ℕ)) (text : List ℕ) (n : ℕ) → has_text texts text (firsts texts n) ≡ is_among texts text n
firsts_have texts text zero = refl
firsts_have texts text (suc n) =
    has_text_append texts text (firsts texts n) (if is_first texts n then n ∷ [] else [])
    ∙ ap (λ (b : Bool). b || has_text texts text (if is_first texts n then n ∷ [] else [])) (firsts_have texts text n)
    ∙ by (is_among texts text n) refl
  where
    by : (b : Bool) → is_among texts text n ≡ b
        → (b || has_text texts text (if is_first texts n then n ∷ [] else [])) ≡ (b || bytes_eq (text_at texts n) text)
    by true e = refl
    by false e = new_has texts text n e

apart_more : (texts : List (List ℕ)) (is : List ℕ) (n : ℕ) → AreApart texts is → has_text texts (text_at texts n) is ≡ false
    → AreApart texts (is ++ n ∷ [])
apart_more texts [] n apart none = (refl, tt)
apart_more texts (i ∷ is) n apart none =
    let split = both_false (bytes_eq (text_at texts n) (text_at texts i)) (has_text texts (text_at texts n) is) none in
    let other : bytes_eq (text_at texts i) (text_at texts n) ≡ false = same_both (text_at texts i) (text_at texts n) ∙ split.0 in (
      has_text_append texts (text_at texts i) is (n ∷ [])
          ∙ ap (λ (b : Bool). b || has_text texts (text_at texts i) (n ∷ [])) apart.0
          ∙ ap (λ (b : Bool). b || false) other,
      apart_more texts is n apart.1 split.1,
    )

pub firsts_apart : (texts : List (List ℕ)) (n : ℕ) → AreApart texts (firsts texts n)
firsts_apart texts zero = tt
firsts_apart texts (suc n) = by (firsts_apart texts n) (is_among texts (text_at texts n) n) refl
  where
    by : AreApart texts (firsts texts n) → (b : Bool) → is_among texts (text_at texts n) n ≡ b
        → AreApart texts (firsts texts n ++ (if not b then n ∷ [] else []))
    by apart true e = subst (AreApart texts) (sym (append-nil (firsts texts n))) apart
    by apart false e = apart_more texts (firsts texts n) n apart (firsts_have texts (text_at texts n) n ∙ e)

-- how many come first
pub length_firsts : (texts : List (List ℕ)) (n : ℕ) → length (firsts texts n) ≡ outcomes_among texts n
length_firsts texts zero = refl
length_firsts texts (suc n) =
    length-append (firsts texts n) (if is_first texts n then n ∷ [] else [])
    ∙ ap (λ (k : ℕ). k + length (if is_first texts n then n ∷ [] else [])) (length_firsts texts n)
    ∙ ap (λ (k : ℕ). outcomes_among texts n + k) (by (is_first texts n))
  where
    by : (b : Bool) → length (if b then n ∷ [] else []) ≡ (if b then 1 else 0)
    by true = refl
    by false = refl

pub firsts_below : (texts : List (List ℕ)) (n : ℕ) → All (λ i. i < n) (firsts texts n)
firsts_below texts zero = All-nil (λ (i : ℕ). i < 0)
firsts_below texts (suc n) =
    All-append (λ (i : ℕ). i < suc n) (firsts texts n) (if is_first texts n then n ∷ [] else [])
    (λ k d lt. (let below = firsts_below texts n k d lt in omega (arith, below)))
    (by (is_first texts n))
  where
    by : (b : Bool) → All (λ i. i < suc n) (if b then n ∷ [] else [])
    by true = All-cons (λ (i : ℕ). i < suc n) n [] (omega arith) (All-nil (λ (i : ℕ). i < suc n))
    by false = All-nil (λ (i : ℕ). i < suc n)

pub times_few : (texts : List (List ℕ)) (text : List ℕ) (n : ℕ) → times_among texts text n ≤ n
times_few texts text zero = omega arith
times_few texts text (suc n) =
    let before = times_few texts text n in
    let one = by (bytes_eq (text_at texts n) text) in
    omega (arith, before, one)
  where
    by : (b : Bool) → (if b then 1 else 0) ≤ 1
    by true = omega arith
    by false = omega arith

pub none_times : (texts : List (List ℕ)) (text : List ℕ) (n : ℕ) → is_among texts text n ≡ false → times_among texts text n ≡ 0
none_times texts text zero none = refl
none_times texts text (suc n) none =
    let split = both_false (is_among texts text n) (bytes_eq (text_at texts n) text) none in
    let before = none_times texts text n split.0 in
    let here = ap one_where split.1 in
    omega (arith, before, here)
