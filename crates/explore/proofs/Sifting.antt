-- Choices that are left out, since they cannot be made.
use native.Mathlib.Omega.{arith}
use Rattle.std.proofs.Common.{◌≡◌, ◌⊎◌, inl, inr, ◌∙◌, subst, sym, ap, refl, ℕ, zero, suc, ◌+◌, ◌<◌, ◌≤◌, List, [], ◌∷◌, ◌++◌, length, Some, None, Bool, true, false, if◌then◌else◌, not, ◌&&◌, length-append}
use Rattle.std.specs.Prelude.{is_some}
use Rattle.std.proofs.lemmas.Bool.{cases_lt}
use Rattle.std.proofs.lemmas.List.{get_or_append_left}
use Rattle.std.proofs.Math.Seq.{get_or-append_seam}
use Rattle.explore.specs.declared.programs.Program.{Program}
use Rattle.explore.specs.declared.programs.Choice.{Choice}
use Rattle.explore.specs.declared.programs.Choice.TheVariants as choice
use Rattle.explore.specs.declared.tried.Tried.{Tried}
use Rattle.explore.specs.States.{ProgramState, after}
use Rattle.explore.specs.Found.{choice_at, made_among}
use Rattle.explore.specs.Searches.{AreFoundFrom, IsExpanded, IsSifted, IsTried, NoneChanges, StaysIn, changes, is_made}
use Rattle.explore.proofs.Trying.{end_next, few_next, found_next, made_next, open_next}

-- choices behind the first are not among them
made_front : (p : Program) (s : ProgramState) (xs ys : List Choice) (n : ℕ) → n ≤ length xs
    → made_among p s (xs ++ ys) n ≡ made_among p s xs n
made_front p s xs ys zero le = refl
made_front p s xs ys (suc n) le =
    let h = made_front p s xs ys n (omega (arith, le)) in
    let e : choice_at (xs ++ ys) n ≡ choice_at xs n = get_or_append_left xs ys (choice.Begin 0) n (omega (arith, le)) in
    rw (h, e) refl

last_choice : (xs : List Choice) (c : Choice) → choice_at (xs ++ c ∷ []) (length xs) ≡ c
last_choice xs c = get_or-append_seam xs c [] (choice.Begin 0)

made_last : (p : Program) (s : ProgramState) (xs : List Choice) (c : Choice)
    → made_among p s (xs ++ c ∷ []) (length (xs ++ c ∷ [])) ≡ made_among p s xs (length xs) + (if is_some (after p s c) then 1 else 0)
made_last p s xs c =
    let l = length-append xs (c ∷ []) in
    let n : length (xs ++ c ∷ []) ≡ suc (length xs) = omega (arith, l) in
    let h = made_front p s xs (c ∷ []) (length xs) (omega arith) in
    rw (n, h, last_choice xs c) refl

-- one that cannot be made is left out
pub sifted_out : (p : Program) (s : ProgramState) (cs those : List Choice) (n : ℕ) → IsSifted p s cs n those
    → after p s (choice_at cs n) ≡ None → IsSifted p s cs (n + 1) those
sifted_out p s cs those n h none = record {
  kept = λ i t lt leads. pick i t lt leads (cases_lt i n);
  counted = (let one : n + 1 ≡ suc n = omega arith in rw (one, none) (h.counted ∙ omega arith));
  few = (let x = h.few in omega (arith, x));
}
  where
    pick : (i : ℕ) (t : ProgramState) → i < n + 1 → after p s (choice_at cs i) ≡ Some t → (i < n) ⊎ (n ≤ i)
        → (j : ℕ) × (j < length those) × (choice_at those j ≡ choice_at cs i)
    pick i t lt leads (inl below) = h.kept i t below leads
    pick i t lt leads (inr past) =
        let here : i ≡ n = omega (arith, lt, past) in
        let there : after p s (choice_at cs i) ≡ None = ap (λ (k : ℕ). after p s (choice_at cs k)) here ∙ none in
        absurd (let a = sym there ∙ leads in cc)

-- and one that may be made is kept
pub sifted_in : (p : Program) (s : ProgramState) (cs those : List Choice) (n : ℕ) → IsSifted p s cs n those
    → IsSifted p s cs (n + 1) (those ++ choice_at cs n ∷ [])
sifted_in p s cs those n h = record {
  kept = λ i t lt leads. pick i t lt leads (cases_lt i n);
  counted = (let one : n + 1 ≡ suc n = omega arith in rw (one, made_last p s those (choice_at cs n), h.counted) refl);
  few = (let x = h.few in let l = length-append those (choice_at cs n ∷ []) in omega (arith, x, l));
}
  where
    pick : (i : ℕ) (t : ProgramState) → i < n + 1 → after p s (choice_at cs i) ≡ Some t → (i < n) ⊎ (n ≤ i)
        → (j : ℕ) × (j < length (those ++ choice_at cs n ∷ [])) × (choice_at (those ++ choice_at cs n ∷ []) j ≡ choice_at cs i)
    pick i t lt leads (inl below) =
        let o = h.kept i t below leads in
        let x = o.1 in
        let l = length-append those (choice_at cs n ∷ []) in
        (o.0, omega (arith, l, x), get_or_append_left those (choice_at cs n ∷ []) (choice.Begin 0) o.0 x ∙ o.2)
    pick i t lt leads (inr past) =
        let here : n ≡ i = omega (arith, lt, past) in
        let l = length-append those (choice_at cs n ∷ []) in
        (length those, omega (arith, l), last_choice those (choice_at cs n) ∙ ap (λ (k : ℕ). choice_at cs k) here)

pub sifted_next : (p : Program) (s : ProgramState) (cs those more : List Choice) (n : ℕ) (may : Bool) → IsSifted p s cs n those
    → (may ≡ false → after p s (choice_at cs n) ≡ None) → more ≡ (if may then those ++ choice_at cs n ∷ [] else those) → IsSifted p s cs (n + 1) more
sifted_next p s cs those more n true h none e = rw e (sifted_in p s cs those n h)
sifted_next p s cs those more n false h none e = rw e (sifted_out p s cs those n h (none refl))

-- where the choices that were kept are tried, all are
pub all_expanded : (p : Program) (ws : List (List Choice)) (d : ℕ) (s : ProgramState) (cs those : List Choice) (end : Bool) (made : ℕ)
    → IsSifted p s cs (length cs) those → IsExpanded p ws d s those end made → IsExpanded p ws d s cs end made
all_expanded p ws d s cs those end made sifted h = record {
  found = λ i t lt leads.
      let o = sifted.kept i t lt leads in
      h.found o.0 t o.1 (subst (λ (c : Choice). after p s c ≡ Some t) (sym o.2) leads);
  end = λ is i t lt leads.
      let o = sifted.kept i t lt leads in
      h.end is o.0 t o.1 (subst (λ (c : Choice). after p s c ≡ Some t) (sym o.2) leads);
  changing = h.changing;
  made = h.made ∙ sifted.counted;
  few = (let x = h.few in let y = sifted.few in omega (arith, x, y));
}

-- none can be made
pub none_expanded : (p : Program) (ws : List (List Choice)) (d : ℕ) (s : ProgramState) → IsExpanded p ws d s [] true 0
none_expanded p ws d s = record {
  found = λ i t lt leads. absurd (omega (arith, lt));
  end = λ is i t lt leads. absurd (omega (arith, lt));
  changing = λ is. absurd (cc);
  made = refl;
  few = omega arith;
}

-- one choice more was tried
pub expanded_more : (p : Program) (ws ws' : List (List Choice)) (d : ℕ) (s : ProgramState) (cs : List Choice) (c : Choice) (x : Tried) (end led : Bool) (made k : ℕ)
    → IsExpanded p ws d s cs end made → StaysIn ws ws' → IsTried p ws' d s c x → led ≡ changes x → k ≡ (if is_made x then 1 else 0)
    → IsExpanded p ws' d s (cs ++ c ∷ []) (end && not led) (made + k)
expanded_more p ws ws' d s cs c x end led made k h stays tried is one =
    let l = length-append cs (c ∷ []) in
    let n : length (cs ++ c ∷ []) ≡ length cs + 1 = omega (arith, l) in
    let found : AreFoundFrom p ws d s (cs ++ c ∷ []) (length cs) = λ i t lt leads. h.found i t lt (subst (λ (y : Choice). after p s y ≡ Some t) (front i lt) leads) in
    let none : end ≡ true → NoneChanges p s (cs ++ c ∷ []) (length cs) = λ e i t lt leads. h.end e i t lt (subst (λ (y : Choice). after p s y ≡ Some t) (front i lt) leads) in
    let count : made ≡ made_among p s (cs ++ c ∷ []) (length cs) = h.made ∙ sym (made_front p s cs (c ∷ []) (length cs) (omega arith)) in
    record {
      found = rw n (found_next p ws ws' d s (cs ++ c ∷ []) (length cs) c x found stays (last_choice cs c) tried);
      end = rw n (end_next p ws' d s (cs ++ c ∷ []) (length cs) c x end led none (last_choice cs c) tried is);
      changing = open_next p ws' d s c x end led h.changing tried is;
      made = rw n (made_next p ws' d s (cs ++ c ∷ []) (length cs) made c x k count (last_choice cs c) tried one);
      few = rw n (few_next x made k (length cs) h.few one);
    }
  where
    front : (i : ℕ) → i < length cs → choice_at (cs ++ c ∷ []) i ≡ choice_at cs i
    front i lt = get_or_append_left cs (c ∷ []) (choice.Begin 0) i lt

pub none_possible : (p : Program) (ws : List (List Choice)) (d : ℕ) (s : ProgramState) (cs those : List Choice) → IsSifted p s cs (length cs) those → length those ≡ 0
    → IsExpanded p ws d s cs true 0
none_possible p ws d s cs [] sifted none = all_expanded p ws d s cs [] true 0 sifted (none_expanded p ws d s)
none_possible p ws d s cs (c ∷ those) sifted none = absurd (omega (arith, none))
