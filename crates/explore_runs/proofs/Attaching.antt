-- The attaches with which a program begins.
use native.Mathlib.Omega.{arith}
use Rattle.std.proofs.Common.{◌≡◌, ◌∙◌, ◌⊎◌, inl, inr, sym, ap, refl, subst, ℕ, zero, suc, ◌+◌, ◌-◌, ◌<◌, ◌≤◌, true, false, List, [], ◌∷◌, ◌++◌, length, Option, Some, None, append_assoc, length-append}
use Rattle.std.specs.Prelude.{is_none, replicate, slice_set, nat_eq}
use Rattle.std.specs.List.{position_from}
use Rattle.std.proofs.lemmas.Bool.{cases_lt, ne_eqb}
use Rattle.lock_word.specs.declared.ThreadId.{ThreadId}
use Rattle.thread_index.specs.Indices.{berth_of, free_berth, is_held_by}
use Rattle.step_core.specs.declared.machine.Move.TheVariants as move
use Rattle.step_core.specs.declared.steps.Atomic.TheVariants.{Label}
use Rattle.step_core.specs.declared.steps.Step.TheVariants as step
use Rattle.step_core.specs.Did.{one_move}
use Rattle.step_core.specs.Step.{AfterStep, accept, after_attach, step_of, with_live}
use Rattle.step_core.specs.World.{WorldState}
use Rattle.explore.specs.declared.programs.Program.{Program}
use Rattle.explore.specs.States.{attached, opening, thread_of}
use Rattle.explore_runs.specs.Steps.{empty_world}

abbrev Berths : Type 0
Berths = List (Option ThreadId)

-- the berths of the threads below a number
abbrev taken : ℕ → Berths
taken zero = []
taken (suc n) = taken n ++ Some (thread_of n) ∷ []

-- one that passes none of these berths looks behind them
free_behind : (n i : ℕ) (rest : Berths) → position_from is_none i (taken n ++ rest) ≡ position_from is_none (i + n) rest
free_behind zero i rest = ap (λ (k : ℕ). position_from is_none k rest) (omega arith)
free_behind (suc n) i rest =
    let e : position_from is_none i ((taken n ++ Some (thread_of n) ∷ []) ++ rest) ≡ position_from is_none i (taken n ++ (Some (thread_of n) ∷ rest)) =
    ap (position_from is_none i) (append_assoc (taken n) (Some (thread_of n) ∷ []) rest) in
    let h = free_behind n i (Some (thread_of n) ∷ rest) in
    e ∙ h ∙ ap (λ (k : ℕ). position_from is_none k rest) (omega arith)

held_behind : (n k i : ℕ) (rest : Berths) → n ≤ k
    → position_from (λ u. is_held_by u (thread_of k)) i (taken n ++ rest) ≡ position_from (λ u. is_held_by u (thread_of k)) (i + n) rest
held_behind zero k i rest le = ap (λ (j : ℕ). position_from (λ u. is_held_by u (thread_of k)) j rest) (omega arith)
held_behind (suc n) k i rest le =
    let e : position_from (λ u. is_held_by u (thread_of k)) i ((taken n ++ Some (thread_of n) ∷ []) ++ rest)
    ≡ position_from (λ u. is_held_by u (thread_of k)) i (taken n ++ (Some (thread_of n) ∷ rest)) =
    ap (position_from (λ u. is_held_by u (thread_of k)) i) (append_assoc (taken n) (Some (thread_of n) ∷ []) rest) in
    let h = held_behind n k i (Some (thread_of n) ∷ rest) (omega (arith, le)) in
    let other : nat_eq n k ≡ false = ne_eqb n k (λ (same : n ≡ k). (omega (arith, same, le))) in
    e ∙ h ∙ rw other (ap (λ (j : ℕ). position_from (λ u. is_held_by u (thread_of k)) j rest) (omega arith))

none_held : (m i : ℕ) (t : ThreadId) → position_from (λ u. is_held_by u t) i (replicate m None) ≡ None
none_held zero i t = refl
none_held (suc m) i t = none_held m (i + 1) t

set_behind : (xs ys : Berths) (a b : Option ThreadId) → slice_set (xs ++ a ∷ ys) (length xs) b ≡ xs ++ b ∷ ys
set_behind [] ys a b = refl
set_behind (x ∷ xs) ys a b = ap (λ (zs : Berths). x ∷ zs) (set_behind xs ys a b)

length_taken : (n : ℕ) → length (taken n) ≡ n
length_taken zero = refl
length_taken (suc n) = let l = length-append (taken n) (Some (thread_of n) ∷ []) in let h = length_taken n in omega (arith, l, h)

-- the thread with the number of those before it takes the next berth
attach_next : (w : WorldState) (n m : ℕ) → w.berths ≡ taken n ++ replicate (suc m) None
    → step_of true w (step.Attach (thread_of n)) ≡ accept (with_live w n (thread_of n)) (one_move Label (move.Attach (thread_of n)))
attach_next w n m e =
    let held : berth_of w.berths (thread_of n) ≡ None =
    rw e (held_behind n n 0 (replicate (suc m) None) (omega arith) ∙ none_held (suc m) (0 + n) (thread_of n)) in
    let free : free_berth w.berths ≡ Some n =
    rw e (free_behind n 0 (replicate (suc m) None) ∙ ap (λ (k : ℕ). Some k) (omega arith)) in
    ap (λ (o : Option ℕ). after_attach true w (thread_of n) o (free_berth w.berths)) held
    ∙ ap (λ (o : Option ℕ). after_attach true w (thread_of n) None o) free

berths_next : (w : WorldState) (n m : ℕ) → w.berths ≡ taken n ++ replicate (suc m) None
    → (step_of true w (step.Attach (thread_of n))).after.berths ≡ taken (suc n) ++ replicate m None
berths_next w n m e =
    let l = length_taken n in
    let set : slice_set w.berths n (Some (thread_of n)) ≡ taken n ++ Some (thread_of n) ∷ replicate m None =
    ap (λ (b : Berths). slice_set b n (Some (thread_of n))) e
    ∙ subst (λ (k : ℕ). slice_set (taken n ++ None ∷ replicate m None) k (Some (thread_of n)) ≡ taken n ++ Some (thread_of n) ∷ replicate m None) l
    (set_behind (taken n) (replicate m None) None (Some (thread_of n))) in
    ap (λ (o : AfterStep). o.after.berths) (attach_next w n m e) ∙ set ∙ sym (append_assoc (taken n) (Some (thread_of n) ∷ []) (replicate m None))

berths_after : (p : Program) (n m : ℕ) → n + m ≡ p.indices → (attached (empty_world p) n).berths ≡ taken n ++ replicate m None
berths_after p zero m e = ap (λ (k : ℕ). replicate k None) (omega (arith, e))
berths_after p (suc n) m e = berths_next (attached (empty_world p) n) n m (berths_after p n (suc m) (omega (arith, e)))

-- each attach is accepted
pub attach_goes : (p : Program) (n : ℕ) → n < length p.starts.items
    → step_of true (attached (empty_world p) n) (step.Attach (thread_of n))
    ≡ accept (with_live (attached (empty_world p) n) n (thread_of n)) (one_move Label (move.Attach (thread_of n)))
attach_goes p n lt =
    let few = p.threads_are_live in
    let m : n + suc (p.indices - suc n) ≡ p.indices = omega (arith, few, lt) in
    attach_next (attached (empty_world p) n) n (p.indices - suc n) (berths_after p n (suc (p.indices - suc n)) m)

-- who has a berth where a program begins is a thread of it
pub opening_ours : (p : Program) (t : ThreadId) (k : ℕ) → berth_of (opening p).world.berths t ≡ Some k → t.0 < length p.starts.items
opening_ours p t k berth = by (cases_lt t.0 (length p.starts.items))
  where
    by : (t.0 < length p.starts.items) ⊎ (length p.starts.items ≤ t.0) → t.0 < length p.starts.items
    by (inl lt) = lt
    by (inr le) =
        let n : ℕ = length p.starts.items in
        let few = p.threads_are_live in
        let m : n + (p.indices - n) ≡ p.indices = omega (arith, few) in
        let none : berth_of (opening p).world.berths t ≡ None =
        ap (λ (b : Berths). berth_of b t) (berths_after p n (p.indices - n) m) ∙ held_behind n t.0 0 (replicate (p.indices - n) None) le ∙ none_held (p.indices - n) (0 + n) t in
        absurd (let never = sym berth ∙ none in cc)
