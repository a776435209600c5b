-- Berths of which only the first are written down, and what is written down of them beside.
use Rattle.std.specs.Prelude.{◌≡◌, ℕ, ◌-◌, ◌*◌, ◌≤◌, List, ◌++◌, length, replicate, Option, None, is_some}
use Rattle.std.specs.Prelude.{if◌then◌else◌, nat_eq}
use Rattle.std.specs.HashMap.{HashMap, get}
use Rattle.lock_word.specs.declared.ThreadId.{ThreadId}
use Rattle.thread_index.specs.BitRows.{bit_of}
use Rattle.thread_index.specs.Indices.{berth_of, holder_at, IsOneToOne}

-- the berths up to a limit: nobody has one past those that are written down
abbrev pub padded : List (Option ThreadId) → ℕ → List (Option ThreadId)
padded holders limit = holders ++ replicate (limit - length holders) None

-- what holds of each list of holders and its limit
pub record IsKept (holders : List (Option ThreadId)) (limit : ℕ) : Type 0 where
  pub within : length holders ≤ limit
  pub some : 1 ≤ limit
  pub few : limit ≤ 32767
  pub one_to_one : IsOneToOne (padded holders limit)

-- 1 for a berth that somebody has
abbrev pub taken_bit : Option ThreadId → ℕ
taken_bit holder = (if is_some holder then 1 else 0)

-- a bit for each berth is 1 where somebody has it, and the table has the berth of each thread
pub record TellsBerths {S : Type 0} (berths : List (Option ThreadId)) (words : List ℕ)
    (table : HashMap ℕ ℕ S) : Type 0 where
  pub bits : (k : ℕ) → bit_of words k ≡ taken_bit (holder_at berths k)
  pub look_up : (t : ThreadId) → get nat_eq table t.0 ≡ berth_of berths t

-- what holds of the holders, the limit, the words and the table of each `Indices`
pub record IsWhole {S : Type 0} (holders : List (Option ThreadId)) (limit : ℕ) (words : List ℕ)
    (table : HashMap ℕ ℕ S) : Type 0 where
  pub kept : IsKept holders limit
  pub told : TellsBerths (padded holders limit) words table
  pub room : length holders ≤ 64 * length words
