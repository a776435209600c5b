-- What a record must have that has just these deeds under a number.
use Rattle.std.specs.Prelude.{◌≡◌, ℕ, ◌+◌, ◌<◌, ◌≤◌, ◌==◌, Bool, true, List, [], ◌∷◌, ◌++◌, length}
use Rattle.std.proofs.Common.{arith, ap, sym, ◌∙◌, subst, get_or, take, drop, length-append}
use Rattle.std.proofs.Math.Seq.{get_or-append_seam}
use Rattle.std.proofs.lemmas.Bool.{eq-eqb}
use Rattle.std.proofs.lemmas.List.{get_or_append_left, get_or_default, length-take-le, take-append-drop}
use Rattle.std.proofs.lemmas.List.Elements.{filter-append, filter_more}
use Rattle.live_book.specs.declared.deeds.Logged.{Logged}
use Rattle.live_turns.specs.Ends.{own_of}

-- where n of the deeds stand in what is before this entry of the number, the next of them is this entry
pub next_own : (t : ℕ) (log own : List Logged) (i n : ℕ) (e : Logged) → i < length log → e ≡ get_or log i e → (e.thread.0 == t) ≡ true
    → own_of t (take i log) ≡ take n own → n ≤ length own → own_of t log ≡ own → (n < length own) × (get_or own n e ≡ e)
next_own t log own i n e lt is mine front le all =
    let p : Logged → Bool = λ x. x.thread.0 == t in
    let rest : List Logged = own_of t (drop (i + 1) log) in
    let more : own_of t (take (i + 1) log) ≡ take n own ++ e ∷ [] = rw (← is, mine, front) at (filter_more p log i e lt) in
    let whole : own ≡ (take n own ++ e ∷ []) ++ rest =
    sym all ∙ (ap (own_of t) (sym (take-append-drop (i + 1) log)) ∙ (filter-append p (take (i + 1) log) (drop (i + 1) log) ∙ ap (λ (xs : List Logged). xs ++ rest) more)) in
    let short : length (take n own) ≡ n = length-take-le n own le in
    let one : length (take n own ++ e ∷ []) ≡ n + 1 = length-append (take n own) (e ∷ []) ∙ ap (λ k. k + 1) short in
    let len : length own ≡ length (take n own ++ e ∷ []) + length rest = ap (λ (xs : List Logged). length xs) whole ∙ length-append (take n own ++ e ∷ []) rest in
    let within : n < length (take n own ++ e ∷ []) = omega arith in (
      omega arith,
      ap (λ (xs : List Logged). get_or xs n e) whole ∙ (get_or_append_left (take n own ++ e ∷ []) rest e n within
          ∙ subst (λ k. get_or (take n own ++ e ∷ []) k e ≡ e) short (get_or-append_seam (take n own) e [] e)),
    )

pub none_left : (t : ℕ) (log own : List Logged) (i n : ℕ) (d : Logged) → i < length log → (get_or log i d).thread.0 ≡ t → own_of t (take i log) ≡ take n own
    → n ≤ length own → length own ≤ n → own_of t log ≡ own → ⊥
none_left t log own i n d lt is front le none all =
    let e : Logged = get_or log i d in
    let more : n < length own = (next_own t log own i n e lt (get_or_default log i d e lt) (eq-eqb e.thread.0 t is) front le all).0 in
    omega arith

pub another_next : (t : ℕ) (log own : List Logged) (i n : ℕ) (d : Logged) → i < length log → (get_or log i d).thread.0 ≡ t → own_of t (take i log) ≡ take n own
    → n ≤ length own → (get_or own n d ≡ get_or log i d → ⊥) → own_of t log ≡ own → ⊥
another_next t log own i n d lt is front le other all =
    let e : Logged = get_or log i d in
    let next = next_own t log own i n e lt (get_or_default log i d e lt) (eq-eqb e.thread.0 t is) front le all in
    other (get_or_default own n d e next.0 ∙ next.1)
