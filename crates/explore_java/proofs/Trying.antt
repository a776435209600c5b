-- The moves of a state, tried one after the other.
use native.Mathlib.Omega.{arith}
use Rattle.std.proofs.Common.{◌≡◌, ◌⊎◌, inl, inr, ◌∙◌, subst, sym, ap, refl, ℕ, zero, ◌+◌, ◌<◌, ◌≤◌, List, [], ◌∷◌, ◌++◌, length, Option, Some, None, Bool, true, false, if◌then◌else◌, take, drop, get_or}
use Rattle.std.specs.Option.{unwrap_or}
use Rattle.std.proofs.lemmas.Bool.{cases_lt}
use Rattle.explore.specs.declared.programs.Program.{Program}
use Rattle.step_core.specs.declared.machine.Move.{Move}
use Rattle.explore_java.specs.JavaStates.{JavaProgramState, after, played, played_from, opening}
use Rattle.explore_java.specs.JavaFound.{IsAt}
use Rattle.explore_java.specs.JavaSearches.{StaysIn, AreFoundFrom, AreTried, IsNear, Leads, behind}
use Rattle.std.specs.Prelude.{suc}
use Rattle.explore_java.specs.JavaFound.{move_at, made_among}

from_more : (p : Program) (cs : List Move) (o : Option JavaProgramState) (c : Move) (s : JavaProgramState) (t : Option JavaProgramState)
    → played_from p cs o ≡ Some s → after p s c ≡ t → played_from p (cs ++ c ∷ []) o ≡ t
from_more p [] o c s t e h = rw e h
from_more p (d ∷ cs) (Some r) c s t e h = from_more p cs (after p r d) c s t e h
from_more p (d ∷ cs) None c s t e h = absurd (cc)

-- a move more
pub played_more : (p : Program) (cs : List Move) (c : Move) (s : JavaProgramState) (t : Option JavaProgramState)
    → played p cs ≡ Some s → after p s c ≡ t → played p (cs ++ c ∷ []) ≡ t
played_more p cs c s t e h = from_more p cs (Some (opening p)) c s t e h

pub stays_still : (ws : List (List Move)) → StaysIn ws ws
stays_still ws = record { more = omega arith; same = λ k h. refl }

pub stays_then : (a b c : List (List Move)) → StaysIn a b → StaysIn b c → StaysIn a c
stays_then a b c h g = record {
  more = let x = h.more in let y = g.more in omega (arith, x, y);
  same = λ k lt. let x = h.more in g.same k (omega (arith, x, lt)) ∙ h.same k lt;
}

pub found_stays : (p : Program) (a b : List (List Move)) (d : ℕ) (s : JavaProgramState) → StaysIn a b → IsNear p a s d → IsNear p b s d
found_stays p a b d s h f =
    let x = h.more in let lt = f.1 in
    (f.0, omega (arith, x, lt), rw (h.same f.0 lt) f.2, rw (h.same f.0 lt) f.3)

pub behind_stays : (a b : List (List Move)) (k : ℕ) → StaysIn a b → k < length a → behind a k ≡ behind b k
behind_stays a b k h lt = ap (λ (cs : List Move). length cs + 1) (sym (h.same k lt))

pub at_stays : (p : Program) (a b : List (List Move)) (k : ℕ) (s : JavaProgramState) → StaysIn a b → k < length a → IsAt p a k s → IsAt p b k s
at_stays p a b k s h lt e = rw (h.same k lt) e

-- a move more was tried, which cannot be made, or leads to what is found
found_next : (p : Program) (ws ws' : List (List Move)) (d : ℕ) (s : JavaProgramState) (ms : List Move) (n : ℕ) (m : Move)
    → AreFoundFrom p ws d s ms n → StaysIn ws ws' → move_at ms n ≡ m → ((t : JavaProgramState) → after p s m ≡ Some t → IsNear p ws' t d)
    → AreFoundFrom p ws' d s ms (n + 1)
found_next p ws ws' d s ms n m found stays e here = λ i r lt leads. pick i r lt leads (cases_lt i n)
  where
    pick : (i : ℕ) (r : JavaProgramState) → i < n + 1 → after p s (move_at ms i) ≡ Some r → (i < n) ⊎ (n ≤ i) → IsNear p ws' r d
    pick i r lt leads (inl below) = found_stays p ws ws' d r stays (found i r below leads)
    pick i r lt leads (inr past) =
        let last : i ≡ n = omega (arith, lt, past) in
        let there : move_at ms i ≡ m = ap (λ (k : ℕ). move_at ms k) last ∙ e in
        here r (subst (λ (x : Move). after p s x ≡ Some r) there leads)

-- nothing was tried yet
pub none_tried : (p : Program) (ws : List (List Move)) (d : ℕ) (s : JavaProgramState) (ms : List Move) → AreTried p ws d s ms 0 0
none_tried p ws d s ms = record { found = λ i t lt. absurd (omega (arith, lt)); counted = refl; few = omega arith }

-- what was tried stays tried
tried_stays : (p : Program) (ws ws' : List (List Move)) (d d' : ℕ) (s : JavaProgramState) (ms : List Move) (n made : ℕ)
    → StaysIn ws ws' → d ≡ d' → AreTried p ws d s ms n made → AreTried p ws' d' s ms n made
tried_stays p ws ws' d d' s ms n made stays e h = record {
  found = λ i t lt leads. subst (λ (x : ℕ). IsNear p ws' t x) e (found_stays p ws ws' d t stays (h.found i t lt leads));
  counted = h.counted;
  few = h.few;
}

pub tried_none : (p : Program) (ws ws' : List (List Move)) (d d' : ℕ) (s : JavaProgramState) (ms : List Move) (n made : ℕ) (m : Move)
    → StaysIn ws ws' → d ≡ d' → move_at ms n ≡ m → after p s m ≡ None → AreTried p ws d s ms n made → AreTried p ws' d' s ms (n + 1) made
tried_none p ws ws' d d' s ms n made m stays same e none h =
    let one : n + 1 ≡ suc n = omega arith in
    let old = tried_stays p ws ws' d d' s ms n made stays same h in
    let few = h.few in
    record {
      found = found_next p ws' ws' d' s ms n m old.found (stays_still ws') e (λ t leads. absurd (let g = sym none ∙ leads in cc));
      counted = rw (one, e, none) (h.counted ∙ sym (plus_zero (made_among p s ms n)));
      few = omega (arith, few);
    }
  where
    plus_zero : (k : ℕ) → k + 0 ≡ k
    plus_zero k = omega arith

pub tried_some : (p : Program) (ws ws' : List (List Move)) (d d' : ℕ) (s : JavaProgramState) (ms : List Move) (n made : ℕ) (m : Move)
    → StaysIn ws ws' → d ≡ d' → move_at ms n ≡ m → Leads p ws' d' s m → AreTried p ws d s ms n made → AreTried p ws' d' s ms (n + 1) (made + 1)
tried_some p ws ws' d d' s ms n made m stays same e leads h =
    let one : n + 1 ≡ suc n = omega arith in
    let old = tried_stays p ws ws' d d' s ms n made stays same h in
    let few = h.few in
    record {
      found = found_next p ws' ws' d' s ms n m old.found (stays_still ws') e
          (λ t there. subst (λ (x : JavaProgramState). IsNear p ws' x d') (ap (λ (o : Option JavaProgramState). unwrap_or o t) (sym leads.1 ∙ there)) leads.2);
      counted = rw (one, e, leads.1) (ap (λ (k : ℕ). k + 1) h.counted);
      few = omega (arith, few);
    }

pub taken : (can : Bool) (a : Option JavaProgramState) (x y : JavaProgramState) → a ≡ (if can then Some x else None)
    → can ≡ true → y ≡ x → a ≡ Some y
taken true a x y e h g = e ∙ ap Some (sym g)
taken false a x y e h g = absurd (cc)

-- where a move cannot be made it leads nowhere
pub not_taken : (can : Bool) (a : Option JavaProgramState) (x : JavaProgramState) → a ≡ (if can then Some x else None)
    → can ≡ false → a ≡ None
not_taken false a x e h = e
not_taken true a x e h = absurd (cc)

-- what leads on behind the first of some moves
played_on : (p : Program) (xs ys : List Move) (o : Option JavaProgramState) (r t : JavaProgramState) (m : Move)
    → played_from p xs o ≡ Some r → played_from p (xs ++ m ∷ ys) o ≡ Some t → (u : JavaProgramState) × (after p r m ≡ Some u)
played_on p [] ys None r t m e h = absurd (cc)
played_on p [] ys (Some q) r t m e h =
    let same : q ≡ r = ap (λ (x : Option JavaProgramState). unwrap_or x r) e in
    subst (λ (x : JavaProgramState). (u : JavaProgramState) × (after p x m ≡ Some u)) same (by (after p q m) refl h)
  where
    by : (x : Option JavaProgramState) → after p q m ≡ x → played_from p ys x ≡ Some t → (u : JavaProgramState) × (after p q m ≡ Some u)
    by None g k = absurd (none_plays ys k)
      where
        none_plays : (zs : List Move) → played_from p zs None ≡ Some t → ⊥
        none_plays [] k = cc
        none_plays (z ∷ zs) k = cc
    by (Some u) g k = (u, g)
played_on p (x ∷ xs) ys None r t m e h = absurd (cc)
played_on p (x ∷ xs) ys (Some q) r t m e h = played_on p xs ys (after p q x) r t m e h

-- each move of a play leads on from what those before it lead to
pub next_made : (p : Program) (ms : List Move) (i : ℕ) (d : Move) (r t : JavaProgramState) → i < length ms → played p (take i ms) ≡ Some r → played p ms ≡ Some t
    → (u : JavaProgramState) × (after p r (get_or ms i d) ≡ Some u)
next_made p ms i d r t lt e h =
    played_on p (take i ms) (drop (suc i) ms) (Some (opening p)) r t (get_or ms i d) e
    (ap (λ (l : List Move). played_from p l (Some (opening p))) (sym (parted ms i lt)) ∙ h)
  where
    parted : (ns : List Move) (j : ℕ) → j < length ns → ns ≡ take j ns ++ get_or ns j d ∷ drop (suc j) ns
    parted [] j lt = absurd (omega (arith, lt))
    parted (n ∷ ns) zero lt = refl
    parted (n ∷ ns) (suc j) lt = ap (λ (l : List Move). n ∷ l) (parted ns j (omega (arith, lt)))
