-- The live threads by rising number, and the row of their next ones.
use Rattle.std.specs.Prelude.{◌≡◌, ℕ, ◌<◌, List, [], ◌∷◌, ◌++◌, length, map, slice_index_or, Option, Some, None}
use Rattle.std.specs.List.{AllByRecursion}
use Rattle.lock_word.specs.declared.ThreadId.{ThreadId}
use Rattle.thread_index.specs.Indices.{holder_at}
use Rattle.step_core.specs.Cycles.{next}
use Rattle.step_core.specs.Machine.{State, Thread}
use Rattle.owner_cycles.specs.Rows.{IsIn}

abbrev pub IsLive : State → ThreadId → Type 0
IsLive s t = (x : Thread) × (s.thread t ≡ Some x)

-- each has a lower number than those behind it
abbrev pub Ascend : List ThreadId → Type 0
Ascend [] = Unit {0}
Ascend (t ∷ ts) = AllByRecursion (λ u. t.0 < u.0) ts × Ascend ts

-- exactly the live threads, by rising number
pub record AreLiveThreads (s : State) (threads : List ThreadId) : Type 0 where
  pub rising : Ascend threads
  pub live : (t : ThreadId) → IsIn t threads → IsLive s t
  pub all : (t : ThreadId) → IsLive s t → IsIn t threads

-- exactly the numbers of the threads that have one of the first berths
pub record HaveBerths (berths : List (Option ThreadId)) (most : ℕ) (numbers : List ℕ) : Type 0 where
  pub berthed : (n : ℕ) → IsIn n numbers → (k : ℕ) × (holder_at berths k ≡ Some (record { 0 = n }))
  pub all : (k n : ℕ) → k < most → holder_at berths k ≡ Some (record { 0 = n }) → IsIn n numbers

-- the numbers, and that of a thread behind them if there is one
abbrev pub with_holder : List ℕ → Option ThreadId → List ℕ
with_holder numbers None = numbers
with_holder numbers (Some t) = numbers ++ t.0 ∷ []

-- the threads with these numbers
abbrev pub threads_numbered : List ℕ → List ThreadId
threads_numbered numbers = map (λ n. record { 0 = n }) numbers

-- the thread at a position
abbrev pub thread_at_position : List ThreadId → ℕ → ThreadId
thread_at_position threads k = slice_index_or threads k (record { 0 = 0 })

-- the position of a thread among some: none where it is not among them, or is none itself
abbrev pub IsPosition : List ThreadId → Option ThreadId → Option ℕ → Type 0
IsPosition threads None position = position ≡ None
IsPosition threads (Some t) None = IsIn t threads → ⊥
IsPosition threads (Some t) (Some k) = (k < length threads) × (thread_at_position threads k ≡ t)

-- the row has for each of some threads, if it is there, its position among the others
abbrev pub HasPositions : List ThreadId → List (Option ThreadId) → List (Option ℕ) → Type 0
HasPositions threads nexts row =
    (length row ≡ length nexts)
    × ((k : ℕ) → k < length nexts → IsPosition threads (slice_index_or nexts k None) (slice_index_or row k None))

-- all live threads of the state, and maybe others, by rising number; and the next one of each
pub record AreNexts (s : State) (threads : List ThreadId) (nexts : List (Option ThreadId)) : Type 0 where
  pub rising : Ascend threads
  pub all : (t : ThreadId) → IsLive s t → IsIn t threads
  pub nexts_are : nexts ≡ map (next s) threads

-- the row has for each thread the position of its next one
abbrev pub IsRowOf : (ThreadId → Option ThreadId) → List ThreadId → List (Option ℕ) → Type 0
IsRowOf next threads row =
    (length row ≡ length threads)
    × ((k : ℕ) → k < length threads
    → IsPosition threads (next (thread_at_position threads k)) (slice_index_or row k None))
