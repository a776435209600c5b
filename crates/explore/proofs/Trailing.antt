-- A trail: a choice more, and its first choices.
use native.Mathlib.Omega.{arith}
use Rattle.std.proofs.Common.{◌≡◌, ◌⊎◌, inl, inr, ◌∙◌, subst, sym, ap, refl, ℕ, suc, ◌+◌, ◌<◌, ◌≤◌, List, [], ◌∷◌, ◌++◌, length, take, drop, get_or, Option, Some, None, length-append}
use Rattle.std.specs.Prelude.{slice_get}
use Rattle.std.specs.Option.{unwrap_or}
use Rattle.std.proofs.lemmas.Bool.{cases_lt}
use Rattle.std.proofs.lemmas.List.{map-append, take-append-drop, take-append-le, take_more}
use Rattle.std.proofs.lemmas.Option.{slice_get_within}
use Rattle.explore.specs.declared.programs.Program.{Program}
use Rattle.explore.specs.declared.programs.Choice.{Choice}
use Rattle.explore.specs.declared.programs.Choice.TheVariants as choice
use Rattle.explore.specs.declared.trail.Reached.{Reached}
use Rattle.explore.specs.States.{ProgramState, after, played}
use Rattle.explore.specs.Trails.{AreReached, choices_along}
use Rattle.explore.proofs.Searching.{get_front, get_last, get_old}
use Rattle.explore.proofs.Trying.{front_nowhere, played_more}

take_one_more : (ms : List Reached) (m : Reached) → take (suc (length ms)) (ms ++ m ∷ []) ≡ ms ++ m ∷ []
take_one_more [] m = refl
take_one_more (x ∷ ms) m = ap (λ (xs : List Reached). x ∷ xs) (take_one_more ms m)

-- the first choices of a trail
pub reached_front : (p : Program) (xs ys : List Reached) → AreReached p (xs ++ ys) → AreReached p xs
reached_front p xs ys h = λ i m e.
    let lt = slice_get_within xs i m e in
    rw (← take-append-le (suc i) xs ys (omega (arith, lt))) (h i m (get_front xs ys i m e))

pub reached_less : (p : Program) (n : ℕ) (ms : List Reached) → AreReached p ms → AreReached p (take n ms)
reached_less p n ms h = reached_front p (take n ms) (drop n ms) (rw (take-append-drop n ms) h)

-- one choice more, and where it leads
pub reached_more : (p : Program) (ms : List Reached) (m : Reached) → AreReached p ms → played p (choices_along (ms ++ m ∷ [])) ≡ Some m.state → AreReached p (ms ++ m ∷ [])
reached_more p ms m h leads = λ i x e. pick i x e (cases_lt i (length ms))
  where
    pick : (i : ℕ) (x : Reached) → slice_get (ms ++ m ∷ []) i ≡ Some x → (i < length ms) ⊎ (length ms ≤ i)
        → played p (choices_along (take (suc i) (ms ++ m ∷ []))) ≡ Some x.state
    pick i x e (inl below) =
        rw (take-append-le (suc i) ms (m ∷ []) (omega (arith, below))) (h i x (get_old ms m i x below e))
    pick i x e (inr past) =
        let within = slice_get_within (ms ++ m ∷ []) i x e in
        let l = length-append ms (m ∷ []) in
        let here : length ms ≡ i = omega (arith, l, within, past) in
        let g : slice_get (ms ++ m ∷ []) (length ms) ≡ Some x = subst (λ (n : ℕ). slice_get (ms ++ m ∷ []) n ≡ Some x) (sym here) e in
        let same : m ≡ x = ap (λ (o : Option Reached). unwrap_or o m) (sym (get_last ms m) ∙ g) in
        ap (λ (n : ℕ). played p (choices_along (take (suc n) (ms ++ m ∷ [])))) (sym here)
        ∙ ap (λ (xs : List Reached). played p (choices_along xs)) (take_one_more ms m) ∙ leads ∙ ap (λ (y : Reached). Some y.state) same

-- the state at the end of a trail
pub last_reached : (p : Program) (ms : List Reached) (m : Reached) → AreReached p (ms ++ m ∷ []) → played p (choices_along (ms ++ m ∷ [])) ≡ Some m.state
last_reached p ms m h =
    sym (ap (λ (xs : List Reached). played p (choices_along xs)) (take_one_more ms m)) ∙ h (length ms) m (get_last ms m)

-- a trail along a list of choices, and the next of these
pub along_more : (cs : List Choice) (ms : List Reached) (m : Reached) → choices_along ms ≡ take (length ms) cs → length ms < length cs
    → m.choice ≡ get_or cs (length ms) (choice.Begin 0) → choices_along (ms ++ m ∷ []) ≡ take (length (ms ++ m ∷ [])) cs
along_more cs ms m same lt next =
    let l = length-append ms (m ∷ []) in
    let one : length ms + 1 ≡ length (ms ++ m ∷ []) = omega (arith, l) in
    map-append (λ (x : Reached). x.choice) ms (m ∷ []) ∙ ap (λ (xs : List Choice). xs ++ m.choice ∷ []) same
    ∙ ap (λ (c : Choice). take (length ms) cs ++ c ∷ []) next ∙ sym (take_more cs (length ms) (choice.Begin 0) lt)
    ∙ ap (λ (n : ℕ). take n cs) one

pub leads_more : (p : Program) (ms : List Reached) (m : Reached) (s : ProgramState) → played p (choices_along ms) ≡ Some s → after p s m.choice ≡ Some m.state
    → played p (choices_along (ms ++ m ∷ [])) ≡ Some m.state
leads_more p ms m s e h =
    ap (played p) (map-append (λ (x : Reached). x.choice) ms (m ∷ [])) ∙ played_more p (choices_along ms) m.choice s _ e h

-- the next choice cannot be made
pub leads_nowhere : (p : Program) (cs : List Choice) (ms : List Reached) (s : ProgramState) → choices_along ms ≡ take (length ms) cs → length ms < length cs
    → played p (choices_along ms) ≡ Some s → after p s (get_or cs (length ms) (choice.Begin 0)) ≡ None → played p cs ≡ None
leads_nowhere p cs ms s same lt e h =
    let first : played p (take (length ms + 1) cs) ≡ None =
    ap (played p) (take_more cs (length ms) (choice.Begin 0) lt)
    ∙ played_more p (take (length ms) cs) (get_or cs (length ms) (choice.Begin 0)) s _ (ap (played p) (sym same) ∙ e) h in
    ap (played p) (sym (take-append-drop (length ms + 1) cs)) ∙ front_nowhere p (take (length ms + 1) cs) (drop (length ms + 1) cs) first
