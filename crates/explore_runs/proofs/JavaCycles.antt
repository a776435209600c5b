-- The threads of a program by rising number: all that are live on its machine are among them.
use native.Mathlib.Omega.{arith}
use Rattle.std.proofs.Common.{◌≡◌, ◌<◌, ◌≤◌, ◌⊎◌, ◌∙◌, inl, inr, ℕ, zero, suc, List, [], ◌∷◌, ◌++◌, ap, map, refl, subst, sym}
use Rattle.std.specs.List.{AllByRecursion}
use Rattle.std.specs.Prelude.{Option}
use Rattle.std.proofs.lemmas.Bool.{cases_lt}
use Rattle.lock_word.specs.declared.ThreadId.{ThreadId}
use Rattle.step_core.specs.Cycles.{next}
use Rattle.jls_check.specs.MachineState.{MachineState, state}
use Rattle.jls_check.specs.Numbers.{AreBelow}
use Rattle.explore.specs.States.{thread_of}
use Rattle.explore_java.specs.JavaRuns.{threads_below}
use Rattle.explore_java.proofs.Making.{below_out, live_below}
use Rattle.owner_cycles.specs.Rows.{IsIn}
use Rattle.owner_cycles.specs.Threads.{AreNexts, Ascend, IsLive}
use Rattle.owner_cycles.proofs.Walks.{in_left, in_right}

-- a list with one thread more, whose number is above those of the others
above_more : (n : ℕ) (ts : List ThreadId) (t : ThreadId) → AllByRecursion (λ u. n < u.0) ts → n < t.0 → AllByRecursion (λ u. n < u.0) (ts ++ t ∷ [])
above_more n [] t all lt = (lt, tt)
above_more n (u ∷ ts) t all lt = (all.0, above_more n ts t all.1 lt)

ascend_more : (ts : List ThreadId) (t : ThreadId) → Ascend ts → AllByRecursion (λ u. u.0 < t.0) ts → Ascend (ts ++ t ∷ [])
ascend_more [] t rising below = (tt, tt)
ascend_more (u ∷ ts) t rising below = (above_more u.0 ts t rising.0 below.0, ascend_more ts t rising.1 below.1)

below_more : (n : ℕ) (ts : List ThreadId) (t : ThreadId) → AllByRecursion (λ u. u.0 < n) ts → t.0 < n → AllByRecursion (λ u. u.0 < n) (ts ++ t ∷ [])
below_more n [] t all lt = (lt, tt)
below_more n (u ∷ ts) t all lt = (all.0, below_more n ts t all.1 lt)

all_below : (n m : ℕ) → n ≤ m → AllByRecursion (λ u. u.0 < m) (threads_below n)
all_below zero m le = tt
all_below (suc n) m le = below_more m (threads_below n) (thread_of n) (all_below n m (omega (arith, le))) (omega (arith, le))

threads_ascend : (n : ℕ) → Ascend (threads_below n)
threads_ascend zero = tt
threads_ascend (suc n) = ascend_more (threads_below n) (thread_of n) (threads_ascend n) (all_below n n (omega arith))

is_below : (n : ℕ) (t : ThreadId) → t.0 < n → IsIn t (threads_below n)
is_below zero t lt = absurd (omega (arith, lt))
is_below (suc n) t lt = by (cases_lt t.0 n) (λ below. is_below n t below)
  where
    by : (t.0 < n) ⊎ (n ≤ t.0) → (t.0 < n → IsIn t (threads_below n)) → IsIn t (threads_below n ++ thread_of n ∷ [])
    by (inl below) more = in_left t (threads_below n) (thread_of n ∷ []) (more below)
    by (inr past) more =
        let same : t.0 ≡ n = omega (arith, lt, past) in
        subst (λ (u : ThreadId). IsIn t (threads_below n ++ u ∷ [])) (λ i. record { 0 = same i }) (in_right t (threads_below n) (t ∷ []) (inl refl))

live_is_below : (n : ℕ) (v : MachineState) (t : ThreadId) → AreBelow n v → IsLive (state v) t → IsIn t (threads_below n)
live_is_below n v t below live = is_below n t (live_below n (state v) t live.0 (below_out n v below) live.1)

pub are_all : (n : ℕ) (v : MachineState) (threads : List ThreadId) (nexts : List (Option ThreadId)) →
    AreBelow n v → threads ≡ threads_below n → nexts ≡ map (next (state v)) (threads_below n) →
    AreNexts (state v) threads nexts
are_all n v threads nexts below same each = record {
  rising = subst (λ (ts : List ThreadId). Ascend ts) (sym same) (threads_ascend n);
  all = λ t live. subst (λ (ts : List ThreadId). IsIn t ts) (sym same) (live_is_below n v t below live);
  nexts_are = each ∙ ap (λ (ts : List ThreadId). map (next (state v)) ts) (sym same);
}
