-- Beginnings of one trace.
use Rattle.std.proofs.Common.{◌≡◌, ◌⊎◌, ℕ, ◌+◌, ◌≤◌, Bool, true, false, List, [], ◌∷◌, ◌++◌, length, refl, sym, ap, ◌∙◌, subst, arith, inl, inr, ⊎_elim, ltb-true, ltb-false, length-append, append-nil}
use Rattle.std.specs.Prelude.{if◌then◌else◌, nat_lt}
use mathlib.Core.List.{IsPrefix}
use Rattle.header_words.specs.declared.event.Event.{Event}
use Rattle.header_words.specs.Events.{own_events}
use Rattle.header_words.specs.Rule.{longer_of}
use Rattle.header_words.proofs.Traces.{own_events-append}

-- a list of no elements
nil_of_length : (xs : List Event) → length xs ≡ 0 → xs ≡ []
nil_of_length [] e = refl
nil_of_length (x ∷ xs) e = absurd (omega arith)

-- of two beginnings of one list the shorter begins the longer
pub prefix_of_two : (a b log : List Event) → IsPrefix a log → IsPrefix b log → length a ≤ length b → IsPrefix a b
prefix_of_two [] b log h g le = (b, refl)
prefix_of_two (x ∷ a) [] log h g le = absurd (omega arith)
prefix_of_two (x ∷ a) (y ∷ b) [] h g le = let e : x ∷ (a ++ h.0) ≡ [] = h.1 in absurd (cc)
prefix_of_two (x ∷ a) (y ∷ b) (z ∷ log) h g le =
    let e : x ∷ (a ++ h.0) ≡ z ∷ log = h.1 in
    let f : y ∷ (b ++ g.0) ≡ z ∷ log = g.1 in
    let p : a ++ h.0 ≡ log = cc in
    let q : b ++ g.0 ≡ log = cc in
    let same : x ≡ y = cc in
    let t = prefix_of_two a b log (h.0, p) (g.0, q) (omega arith) in
    (t.0, λ k. same k ∷ t.1 k)

-- no event of the pass comes after a list that has them all
pub own_between : (i : ℕ) (a b log : List Event) → IsPrefix a b → IsPrefix b log → own_events i a ≡ own_events i log → own_events i b ≡ own_events i log
own_between i a b log h g same =
    let x : own_events i a ++ own_events i h.0 ≡ own_events i b = sym (own_events-append i a h.0) ∙ ap (own_events i) h.1 in
    let y : own_events i b ++ own_events i g.0 ≡ own_events i log = sym (own_events-append i b g.0) ∙ ap (own_events i) g.1 in
    let lx : length (own_events i a) + length (own_events i h.0) ≡ length (own_events i b) = sym (length-append (own_events i a) (own_events i h.0)) ∙ ap length x in
    let ly : length (own_events i b) + length (own_events i g.0) ≡ length (own_events i log) = sym (length-append (own_events i b) (own_events i g.0)) ∙ ap length y in
    let lz : length (own_events i a) ≡ length (own_events i log) = ap length same in
    let none : own_events i g.0 ≡ [] = nil_of_length (own_events i g.0) (omega arith) in
    sym (append-nil (own_events i b)) ∙ (ap (λ (z : List Event). own_events i b ++ z) (sym none) ∙ y)

-- the longer list, by the test
longer_is : (xs ys : List Event) (b : Bool) → nat_lt (length xs) (length ys) ≡ b → (((if b then ys else xs) ≡ ys) × (length xs ≤ length ys)) ⊎ (((if b then ys else xs) ≡ xs) × (length ys ≤ length xs))
longer_is xs ys true e = inl (refl, (let h = ltb-true (length xs) (length ys) e in omega arith))
longer_is xs ys false e = inr (refl, ltb-false (length xs) (length ys) e)

-- the longer list is one of the two
pub longer_cases : (xs ys : List Event) → ((longer_of xs ys ≡ ys) × (length xs ≤ length ys)) ⊎ ((longer_of xs ys ≡ xs) × (length ys ≤ length xs))
longer_cases xs ys = longer_is xs ys (nat_lt (length xs) (length ys)) refl

-- of two beginnings the longer is one
pub longer_prefix : (xs ys log : List Event) → IsPrefix xs log → IsPrefix ys log → IsPrefix (longer_of xs ys) log
longer_prefix xs ys log h g = ⊎_elim (λ (t : (longer_of xs ys ≡ ys) × (length xs ≤ length ys)). subst (λ (z : List Event). IsPrefix z log) (sym t.0) g) (λ (t : (longer_of xs ys ≡ xs) × (length ys ≤ length xs)). subst (λ (z : List Event). IsPrefix z log) (sym t.0) h) (longer_cases xs ys)

-- what the one or the other has seen of a pass, the longer has
pub longer_own : (i : ℕ) (m xs ys log : List Event) → IsPrefix xs log → IsPrefix ys log → own_events i log ≡ m → (own_events i xs ≡ m) ⊎ (own_events i ys ≡ m) → own_events i (longer_of xs ys) ≡ m
longer_own i m xs ys log h g all some = ⊎_elim
    (λ (t : (longer_of xs ys ≡ ys) × (length xs ≤ length ys)). ap (own_events i) t.0 ∙ ⊎_elim (λ (x : own_events i xs ≡ m). own_between i xs ys log (prefix_of_two xs ys log h g t.1) g (x ∙ sym all) ∙ all) (λ (y : own_events i ys ≡ m). y) some)
    (λ (t : (longer_of xs ys ≡ xs) × (length ys ≤ length xs)). ap (own_events i) t.0 ∙ ⊎_elim (λ (x : own_events i xs ≡ m). x) (λ (y : own_events i ys ≡ m). own_between i ys xs log (prefix_of_two ys xs log g h t.1) h (y ∙ sym all) ∙ all) some)
    (longer_cases xs ys)
