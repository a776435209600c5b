-- The choices of a state, tried one after the other.
use native.Mathlib.Omega.{arith}
use Rattle.std.proofs.Common.{◌≡◌, ◌⊎◌, inl, inr, ◌∙◌, subst, sym, ap, refl, ℕ, ◌+◌, ◌<◌, ◌≤◌, List, [], ◌∷◌, ◌++◌, length, Option, Some, None, Bool, true, false, if◌then◌else◌, not, ◌&&◌}
use Rattle.std.specs.Option.{unwrap_or}
use Rattle.std.proofs.lemmas.Bool.{cases_lt, eqb-true, eq-eqb}
use Rattle.std.specs.Prelude.{◌==◌}
use Rattle.explore.specs.declared.programs.Program.{Program}
use Rattle.explore.specs.declared.programs.Choice.{Choice}
use Rattle.explore.specs.States.{ProgramState, after, played, played_from, opening}
use Rattle.explore.specs.Found.{IsAt, AreStates, witness_at}
use Rattle.explore.specs.Searches.{StaysIn, AreFoundFrom, IsNear, NoneChanges, Changes, IsTried, HasNumber, behind, changes, is_made}
use Rattle.explore.specs.declared.tried.Tried.{Tried}
use Rattle.explore.specs.declared.tried.Tried.TheVariants as tried
use Rattle.std.specs.Prelude.{suc, is_some}
use Rattle.explore.specs.Found.{choice_at, made_among}

from_more : (p : Program) (cs : List Choice) (o : Option ProgramState) (c : Choice) (s : ProgramState) (t : Option ProgramState)
    → played_from p cs o ≡ Some s → after p s c ≡ t → played_from p (cs ++ c ∷ []) o ≡ t
from_more p [] o c s t e h = rw e h
from_more p (d ∷ cs) (Some r) c s t e h = from_more p cs (after p r d) c s t e h
from_more p (d ∷ cs) None c s t e h = absurd (cc)

-- nothing leads on from nowhere
pub from_nowhere : (p : Program) (cs : List Choice) → played_from p cs None ≡ None
from_nowhere p [] = refl
from_nowhere p (c ∷ cs) = refl

from_append : (p : Program) (cs ds : List Choice) (o : Option ProgramState)
    → played_from p (cs ++ ds) o ≡ played_from p ds (played_from p cs o)
from_append p [] ds o = refl
from_append p (c ∷ cs) ds (Some s) = from_append p cs ds (after p s c)
from_append p (c ∷ cs) ds None = sym (from_nowhere p ds)

-- where the first choices lead nowhere, all do
pub front_nowhere : (p : Program) (cs ds : List Choice) → played p cs ≡ None → played p (cs ++ ds) ≡ None
front_nowhere p cs ds e = from_append p cs ds (Some (opening p)) ∙ ap (played_from p ds) e ∙ from_nowhere p ds

-- a choice more
pub played_more : (p : Program) (cs : List Choice) (c : Choice) (s : ProgramState) (t : Option ProgramState)
    → played p cs ≡ Some s → after p s c ≡ t → played p (cs ++ c ∷ []) ≡ t
played_more p cs c s t e h = from_more p cs (Some (opening p)) c s t e h

pub stays_still : (ws : List (List Choice)) → StaysIn ws ws
stays_still ws = record { more = omega arith; same = λ k h. refl }

pub stays_then : (a b c : List (List Choice)) → StaysIn a b → StaysIn b c → StaysIn a c
stays_then a b c h g = record {
  more = let x = h.more in let y = g.more in omega (arith, x, y);
  same = λ k lt. let x = h.more in g.same k (omega (arith, x, lt)) ∙ h.same k lt;
}

pub found_stays : (p : Program) (a b : List (List Choice)) (d : ℕ) (s : ProgramState) → StaysIn a b → IsNear p a s d → IsNear p b s d
found_stays p a b d s h f =
    let x = h.more in let lt = f.1 in
    (f.0, omega (arith, x, lt), rw (h.same f.0 lt) f.2, rw (h.same f.0 lt) f.3)

pub behind_stays : (a b : List (List Choice)) (k : ℕ) → StaysIn a b → k < length a → behind a k ≡ behind b k
behind_stays a b k h lt = ap (λ (cs : List Choice). length cs + 1) (sym (h.same k lt))

pub at_stays : (p : Program) (a b : List (List Choice)) (k : ℕ) (s : ProgramState) → StaysIn a b → k < length a → IsAt p a k s → IsAt p b k s
at_stays p a b k s h lt e = rw (h.same k lt) e

-- one choice more was tried
pub found_next : (p : Program) (ws ws' : List (List Choice)) (d : ℕ) (s : ProgramState) (cs : List Choice) (n : ℕ) (c : Choice) (x : Tried)
    → AreFoundFrom p ws d s cs n → StaysIn ws ws' → choice_at cs n ≡ c → IsTried p ws' d s c x → AreFoundFrom p ws' d s cs (n + 1)
found_next p ws ws' d s cs n c x found stays e tried = λ i r lt leads. pick i r lt leads (cases_lt i n)
  where
    pick : (i : ℕ) (r : ProgramState) → i < n + 1 → after p s (choice_at cs i) ≡ Some r → (i < n) ⊎ (n ≤ i) → IsNear p ws' r d
    pick i r lt leads (inl below) = found_stays p ws ws' d r stays (found i r below leads)
    pick i r lt leads (inr past) =
        let here : i ≡ n = omega (arith, lt, past) in
        let there : choice_at cs i ≡ c = ap (λ (k : ℕ). choice_at cs k) here ∙ e in
        tried.found r (subst (λ (x : Choice). after p s x ≡ Some r) there leads)

none_next : (p : Program) (s : ProgramState) (cs : List Choice) (n : ℕ) (c : Choice)
    → NoneChanges p s cs n → choice_at cs n ≡ c → ((t : ProgramState) → after p s c ≡ Some t → t ≡ s) → NoneChanges p s cs (n + 1)
none_next p s cs n c before e h = λ i t lt leads. pick i t lt leads (cases_lt i n)
  where
    pick : (i : ℕ) (t : ProgramState) → i < n + 1 → after p s (choice_at cs i) ≡ Some t → (i < n) ⊎ (n ≤ i) → t ≡ s
    pick i t lt leads (inl below) = before i t below leads
    pick i t lt leads (inr past) =
        let here : i ≡ n = omega (arith, lt, past) in
        let there : choice_at cs i ≡ c = ap (λ (k : ℕ). choice_at cs k) here ∙ e in
        h t (subst (λ (x : Choice). after p s x ≡ Some t) there leads)

pub taken : (can : Bool) (a : Option ProgramState) (x y : ProgramState) → a ≡ (if can then Some x else None)
    → can ≡ true → y ≡ x → a ≡ Some y
taken true a x y e h g = e ∙ ap Some (sym g)
taken false a x y e h g = absurd (cc)

-- where a choice changes the state it is no end any more
pub end_next : (p : Program) (ws : List (List Choice)) (d : ℕ) (s : ProgramState) (cs : List Choice) (n : ℕ) (c : Choice) (x : Tried) (ends led : Bool)
    → (ends ≡ true → NoneChanges p s cs n) → choice_at cs n ≡ c → IsTried p ws d s c x → led ≡ changes x
    → (ends && not led) ≡ true → NoneChanges p s cs (n + 1)
end_next p ws d s cs n c x true false before e tried is h = none_next p s cs n c (before refl) e (tried.stays (sym is))
end_next p ws d s cs n c x true true before e tried is h = absurd (cc)
end_next p ws d s cs n c x false led before e tried is h = absurd (cc)

pub open_next : (p : Program) (ws : List (List Choice)) (d : ℕ) (s : ProgramState) (c : Choice) (x : Tried) (ends led : Bool)
    → (ends ≡ false → (d : Choice) × Changes p s d) → IsTried p ws d s c x → led ≡ changes x
    → (ends && not led) ≡ false → (d : Choice) × Changes p s d
open_next p ws d s c x false led before tried is h = before refl
open_next p ws d s c x true true before tried is h = (c, tried.leads (sym is))
open_next p ws d s c x true false before tried is h = absurd (cc)

-- a choice that can be made is counted
pub made_next : (p : Program) (ws : List (List Choice)) (d : ℕ) (s : ProgramState) (cs : List Choice) (n m : ℕ) (c : Choice) (x : Tried) (k : ℕ)
    → m ≡ made_among p s cs n → choice_at cs n ≡ c → IsTried p ws d s c x → k ≡ (if is_made x then 1 else 0)
    → m + k ≡ made_among p s cs (n + 1)
made_next p ws d s cs n m c x k before e tried is =
    let one : n + 1 ≡ suc n = omega arith in
    rw (one, before, e, tried.made, is) refl

pub few_next : (x : Tried) (m k n : ℕ) → m ≤ n → k ≡ (if is_made x then 1 else 0) → m + k ≤ n + 1
few_next tried.Refused m k n le is = omega (arith, le, is)
few_next tried.Stays m k n le is = omega (arith, le, is)
few_next tried.Leads m k n le is = omega (arith, le, is)

-- a choice that cannot be made
pub tried_none : (p : Program) (ws : List (List Choice)) (d : ℕ) (s : ProgramState) (c : Choice) → after p s c ≡ None → IsTried p ws d s c tried.Refused
tried_none p ws d s c h = record {
  found = λ t e. absurd (cc);
  leads = λ e. absurd (cc);
  stays = λ _ t e. absurd (cc);
  made = rw h refl;
}

-- a state has one number
pub same_number : (p : Program) (ws : List (List Choice)) (j k : ℕ) (s : ProgramState) → AreStates p ws
    → HasNumber p ws j s → HasNumber p ws k s → j ≡ k
same_number p ws j k s states a b = by (cases_lt j k) (cases_lt k j)
  where
    by : (j < k) ⊎ (k ≤ j) → (k < j) ⊎ (j ≤ k) → j ≡ k
    by (inl lt) other = absurd (states.distinct j k s lt b.0 a.1 b.1)
    by (inr le) (inl lt) = absurd (states.distinct k j s lt a.0 b.1 a.1)
    by (inr le) (inr ge) = omega (arith, le, ge)

-- a choice that leads to the state with a number changes the state, but where the two have one number
pub tried_some : (p : Program) (ws : List (List Choice)) (d : ℕ) (s t : ProgramState) (c : Choice) (at k : ℕ) (x : Tried) → AreStates p ws
    → after p s c ≡ Some t → HasNumber p ws at s → HasNumber p ws k t → length (witness_at ws k) ≤ d → x ≡ (if k == at then tried.Stays else tried.Leads) → IsTried p ws d s c x
tried_some p ws d s t c at k x states e here there near said = record {
  found = λ r h. (k, there.0, there.1 ∙ sym e ∙ h, near);
  leads = λ said_so. (t, e, λ same. other said_so (same_number p ws k at s states (there.0, subst (λ (x : ProgramState). IsAt p ws k x) same there.1) here));
  stays = λ said_no r h. sym (back r h) ∙ one (equal said_no);
  made = ap (λ (o : Option ProgramState). is_some o) e ∙ sym (some_made (k == at) said);
}
  where
    some_made : (b : Bool) → x ≡ (if b then tried.Stays else tried.Leads) → is_made x ≡ true
    some_made true g = ap is_made g
    some_made false g = ap is_made g

    leads_only : (b : Bool) → x ≡ (if b then tried.Stays else tried.Leads) → changes x ≡ not b
    leads_only true g = ap changes g
    leads_only false g = ap changes g

    other : changes x ≡ true → k ≡ at → ⊥
    other led same = absurd (let h = eq-eqb k at same in let g = leads_only (k == at) said in cc)

    equal : changes x ≡ false → k ≡ at
    equal kept = eqb-true k at (by (k == at) (leads_only (k == at) said))
      where
        by : (b : Bool) → changes x ≡ not b → b ≡ true
        by true g = refl
        by false g = absurd (let k = kept in cc)

    back : (r : ProgramState) → after p s c ≡ Some r → t ≡ r
    back r h = ap (λ (o : Option ProgramState). unwrap_or o r) (sym e ∙ h)

    one : k ≡ at → t ≡ s
    one same = ap (λ (o : Option ProgramState). unwrap_or o s) (sym there.1 ∙ subst (λ (m : ℕ). IsAt p ws m s) (sym same) here.1)

-- where a choice cannot be made it leads nowhere
pub not_taken : (can : Bool) (a : Option ProgramState) (x : ProgramState) → a ≡ (if can then Some x else None)
    → can ≡ false → a ≡ None
not_taken false a x e h = e
not_taken true a x e h = absurd (cc)
