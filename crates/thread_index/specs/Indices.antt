-- Which thread has which index. An index is its berth plus one; at a berth that nobody has stands None.
use Rattle.std.specs.Prelude.{◌≡◌, ℕ, ◌+◌, ◌==◌, zero, suc, Bool, false, List, Option, Some, None, is_none}
use Rattle.std.specs.Prelude.{slice_index_or, slice_set}
use Rattle.std.specs.List.{position_from}
use Rattle.std.specs.Option.{option_map}
use Rattle.lock_word.specs.declared.ThreadId.{ThreadId}

-- the thread has the berth that this stands at
abbrev pub is_held_by : Option ThreadId → ThreadId → Bool
is_held_by None t = false
is_held_by (Some u) t = u.0 == t.0

-- the berth of a thread: its index, less one
abbrev pub berth_of : List (Option ThreadId) → ThreadId → Option ℕ
berth_of berths t = position_from (λ u. is_held_by u t) 0 berths

-- the lowest berth that nobody has
abbrev pub free_berth : List (Option ThreadId) → Option ℕ
free_berth berths = position_from is_none 0 berths

-- who has a berth
abbrev pub holder_at : List (Option ThreadId) → ℕ → Option ThreadId
holder_at berths k = slice_index_or berths k None

-- who has an index: nobody has index 0
abbrev pub holder_of : List (Option ThreadId) → ℕ → Option ThreadId
holder_of berths zero = None
holder_of berths (suc k) = holder_at berths k

-- the index of a thread
abbrev pub index_of : List (Option ThreadId) → ThreadId → Option ℕ
index_of berths t = option_map (λ k. k + 1) (berth_of berths t)

-- the berths after a thread gave its berth back, if it had one
abbrev pub given_back : List (Option ThreadId) → Option ℕ → List (Option ThreadId)
given_back berths None = berths
given_back berths (Some k) = slice_set berths k None

-- one thread a berth, one berth a thread
abbrev pub IsOneToOne : List (Option ThreadId) → Type 0
IsOneToOne berths = (k : ℕ) (t : ThreadId) → holder_at berths k ≡ Some t → berth_of berths t ≡ Some k
