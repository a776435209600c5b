-- Every choice that can be made is among all that are tried.
use native.Mathlib.Omega.{arith}
use Rattle.std.proofs.Common.{◌≡◌, ◌⊎◌, inl, inr, ◌∙◌, subst, sym, refl, ℕ, zero, suc, ◌+◌, ◌<◌, ◌≤◌, nat_lt, List, ◌++◌, length, Option, Some, None, Bool, true, false, length-append}
use Rattle.std.specs.Prelude.{slice_get, if◌then◌else◌}
use Rattle.std.proofs.lemmas.Bool.{cases_lt, ltb-true}
use Rattle.std.proofs.lemmas.List.{get_or_append_left, get_or-append-add}
use Rattle.explore.specs.declared.programs.Program.{Program}
use Rattle.explore.specs.declared.programs.Choice.{Choice}
use Rattle.explore.specs.declared.programs.Choice.TheVariants as choice
use Rattle.explore.specs.States.{ProgramState, after, after_step, step_at, step_of_thread}
use Rattle.explore.specs.Found.{IsEnd, all_choices, choice_at, choices_below, choices_for}
use Rattle.explore.specs.Searches.{AllFoundFrom, AreFoundFrom, NoneChanges}

-- a list has this choice at some position
abbrev Has : List Choice → Choice → Type 0
Has cs c = (i : ℕ) × (i < length cs) × (choice_at cs i ≡ c)

has_left : (xs ys : List Choice) (c : Choice) → Has xs c → Has (xs ++ ys) c
has_left xs ys c h =
    let e = length-append xs ys in let lt = h.1 in
    (h.0, omega (arith, e, lt), get_or_append_left xs ys (choice.Begin 0) h.0 lt ∙ h.2)

has_right : (xs ys : List Choice) (c : Choice) → Has ys c → Has (xs ++ ys) c
has_right xs ys c h =
    let e = length-append xs ys in let lt = h.1 in
    (length xs + h.0, omega (arith, e, lt), get_or-append-add xs ys h.0 (choice.Begin 0) ∙ h.2)

has_below : (n k : ℕ) (c : Choice) → k < n → Has (choices_for k) c → Has (choices_below n) c
has_below zero k c lt h = absurd (omega (arith, lt))
has_below (suc n) k c lt h = by (cases_lt k n) (λ below. has_below n k c below h)
  where
    by : (k < n) ⊎ (n ≤ k) → (k < n → Has (choices_below n) c) → Has (choices_below n ++ choices_for n) c
    by (inl below) rest = has_left (choices_below n) (choices_for n) c (rest below)
    by (inr past) rest =
        let here : k ≡ n = omega (arith, lt, past) in
        has_right (choices_below n) (choices_for n) c (subst (λ (m : ℕ). Has (choices_for m) c) here h)

-- a choice of a thread that the program has not means no step
within : (p : Program) (c : Choice) (k : ℕ) (o : Option ℕ) (s r : ProgramState)
    → after_step s c (step_of_thread p c k o) ≡ Some r → k < length p.starts.items
within p c k None s r e = absurd (cc)
within p c k (Some n) s r e = by (nat_lt k (length p.starts.items)) refl e
  where
    by : (b : Bool) → nat_lt k (length p.starts.items) ≡ b → after_step s c (if b then step_at p c n else None) ≡ Some r → k < length p.starts.items
    by true h g = ltb-true k (length p.starts.items) h
    by false h g = absurd (cc)

pub every_choice : (p : Program) (s r : ProgramState) (c : Choice) → after p s c ≡ Some r → Has (all_choices p) c
every_choice p s r (choice.Begin k) e =
    has_left (choices_below (length p.starts.items)) _ _ (has_below _ k _ (within p (choice.Begin k) k (slice_get s.nexts k) s r e) (0, omega arith, refl))
every_choice p s r (choice.Go k) e =
    has_left (choices_below (length p.starts.items)) _ _ (has_below _ k _ (within p (choice.Go k) k (slice_get s.nexts k) s r e) (1, omega arith, refl))
every_choice p s r (choice.Expire k) e =
    has_left (choices_below (length p.starts.items)) _ _ (has_below _ k _ (within p (choice.Expire k) k (slice_get s.nexts k) s r e) (2, omega arith, refl))
every_choice p s r (choice.Spurious k) e =
    has_left (choices_below (length p.starts.items)) _ _ (has_below _ k _ (within p (choice.Spurious k) k (slice_get s.nexts k) s r e) (3, omega arith, refl))
every_choice p s r choice.Tick e = has_right (choices_below (length p.starts.items)) _ _ (0, omega arith, refl)

pub all_found : (p : Program) (ws : List (List Choice)) (d : ℕ) (s : ProgramState)
    → AreFoundFrom p ws d s (all_choices p) (length (all_choices p)) → AllFoundFrom p ws d s
all_found p ws d s h = λ c r e.
    let i = every_choice p s r c e in
    h i.0 r i.1 (subst (λ (x : Choice). after p s x ≡ Some r) (sym i.2) e)

pub is_end : (p : Program) (s : ProgramState) → NoneChanges p s (all_choices p) (length (all_choices p)) → IsEnd p s
is_end p s h = λ c t e.
    let i = every_choice p s t c e in
    h i.0 t i.1 (subst (λ (x : Choice). after p s x ≡ Some t) (sym i.2) e)
