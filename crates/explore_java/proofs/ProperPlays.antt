-- All states on the way to one that was found are proper.
use native.Mathlib.Omega.{arith}
use Rattle.std.proofs.Common.{◌≡◌, ◌⊎◌, inl, inr, ◌∙◌, subst, sym, ap, refl, ℕ, zero, suc, ◌+◌, ◌<◌, ◌≤◌, List, [], ◌∷◌, ◌++◌, length, Option, Some}
use Rattle.std.specs.Option.{unwrap_or}
use Rattle.std.proofs.lemmas.Bool.{cases_lt}
use Rattle.step_core.specs.declared.machine.Move.{Move}
use Rattle.explore.specs.declared.programs.Program.{Program}
use Rattle.explore_java.specs.JavaFound.{AreStates, FindsAll, FoundJavaStates, IsAt, witness_at}
use Rattle.explore_java.specs.JavaStates.{IsProper, JavaProgramState, after, opening, played, played_from}
use Rattle.explore_java.proofs.Trying.{played_more}

-- this state and all that these moves lead to from it, one behind the other, are proper
abbrev pub AreProper : Program → JavaProgramState → List Move → Type 0
AreProper p s [] = IsProper p s
AreProper p s (m ∷ ms) = IsProper p s × ((u : JavaProgramState) → after p s m ≡ Some u → AreProper p u ms)

-- a move more
one_more : (p : Program) (ms : List Move) (m : Move) (s : JavaProgramState) → AreProper p s ms
    → ((t : JavaProgramState) → played_from p (ms ++ m ∷ []) (Some s) ≡ Some t → IsProper p t) → AreProper p s (ms ++ m ∷ [])
one_more p [] m s right last = (right, last)
one_more p (x ∷ ms) m s right last = (
  right.0,
  λ u e. one_more p ms m u (right.1 u e)
      (λ t g. last t (subst (λ (o : Option JavaProgramState). played_from p (ms ++ m ∷ []) o ≡ Some t) (sym e) g)),
)

at_proper : (p : Program) (ws : List (List Move)) → AreStates p ws → (k : ℕ) → k < length ws → (s : JavaProgramState) → IsAt p ws k s → IsProper p s
at_proper p ws states k within s here =
    let r = states.sound k within in
    let same : r.0 ≡ s = ap (λ (o : Option JavaProgramState). unwrap_or o s) (sym r.1 ∙ here) in
    subst (λ (t : JavaProgramState). IsProper p t) same r.2

-- on the way along a witness, from parent to child
below : (n : ℕ) (p : Program) (ws : List (List Move)) → AreStates p ws → (k : ℕ) → k < n → k < length ws → AreProper p (opening p) (witness_at ws k)
below zero p ws states k less within = absurd (omega (arith, less))
below (suc n) p ws states k less within =
    by (cases_lt 0 k) (λ q earlier. below n p ws states q (omega (arith, earlier, less)) (omega (arith, earlier, within)))
  where
    by : (0 < k) ⊎ (k ≤ 0) → ((q : ℕ) → q < k → AreProper p (opening p) (witness_at ws q)) → AreProper p (opening p) (witness_at ws k)
    by (inr none) rest =
        let first : k ≡ 0 = omega (arith, none) in
        let is : witness_at ws k ≡ [] = ap (λ (j : ℕ). witness_at ws j) first ∙ states.first in
        subst (λ (ms : List Move). AreProper p (opening p) ms) (sym is)
        (at_proper p ws states k within (opening p) (ap (λ (ms : List Move). played p ms) is))
    by (inl some) rest =
        let up = states.parents k some within in
        subst (λ (ms : List Move). AreProper p (opening p) ms) (sym up.moves)
        (one_more p (witness_at ws up.parent) up.made (opening p) (rest up.parent up.earlier)
        (λ t e. at_proper p ws states k within t (subst (λ (ms : List Move). played p ms ≡ Some t) (sym up.moves) e)))

pub witness_proper : (p : Program) (ws : List (List Move)) → AreStates p ws → (k : ℕ) → k < length ws → AreProper p (opening p) (witness_at ws k)
witness_proper p ws states k within = below (k + 1) p ws states k (omega arith) within

-- whatever moves lead to is found, so it is proper
pub found_proper : (p : Program) (f : FoundJavaStates) → FindsAll p f → (ms : List Move) (s : JavaProgramState) → played p ms ≡ Some s → IsProper p s
found_proper p f finds ms s e = let k = finds.complete ms s e in at_proper p f.witnesses finds.states k.0 k.1 s k.2

found_from : (p : Program) (f : FoundJavaStates) → FindsAll p f → (todo done : List Move) (s : JavaProgramState) → played p done ≡ Some s → AreProper p s todo
found_from p f finds [] done s e = found_proper p f finds done s e
found_from p f finds (m ∷ todo) done s e =
    (found_proper p f finds done s e, λ u h. found_from p f finds todo (done ++ m ∷ []) u (played_more p done m s (Some u) e h))

-- and so is all that is on the way there
pub all_proper : (p : Program) (f : FoundJavaStates) → FindsAll p f → (ms : List Move) → AreProper p (opening p) ms
all_proper p f finds ms = found_from p f finds ms [] (opening p) refl
