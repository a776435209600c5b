-- The fat state that the fields of `Fats` show, and what always holds of them.
use Rattle.std.specs.Prelude.{◌≡◌, ℕ, ◌+◌, ◌≤◌, true, Some, List, count_by, vec_len, vec_capacity}
use Rattle.std.specs.Ordering.{nat_cmp}
use Rattle.std.specs.FinMap as map
use Rattle.lock_word.specs.declared.ThreadId.{ThreadId}
use Rattle.wait_lines.specs.Lines.{NodeMap, standing}
use Rattle.fat_monitor.specs.declared.actions.Post.{Post}
use Rattle.fat_monitor.specs.declared.monitors.Monitor.{Monitor}
use Rattle.fat_monitor.specs.declared.monitors.Fats.TheInside.{Inside}
use Rattle.fat_monitor.specs.FatState.{FatState, IsSound, stands, is_owned_by}
use Rattle.fat_monitor.specs.Slots.{count_of}

abbrev pub fat_state_in : Inside → FatState
fat_state_in f = record {
  monitors = f.monitors.items;
  threads = f.posts.posts;
  flags = f.posts.flags;
  standing = standing f.lines;
  moment = f.moment;
  limit = f.limit;
  spare = f.spare;
}

-- the node that is kept of a thread that stands in a line is the one at which it stands
abbrev pub AreNodesKept : map.FinMap nat_cmp Post → NodeMap → NodeMap → Type 0
AreNodesKept posts kept nodes =
    (t : ThreadId) (p : Post) → map.get posts t.0 ≡ Some p → stands p ≡ true → map.get nodes t.0 ≡ map.get kept t.0

-- how many of these monitors a thread owns
abbrev pub owned_count : List Monitor → ThreadId → ℕ
owned_count monitors t = count_by (λ (b : Monitor). is_owned_by b.owner t) monitors

-- the count that is kept of a thread is the number of monitors that it owns
abbrev pub AreCounted : List Monitor → map.FinMap nat_cmp ℕ → Type 0
AreCounted monitors counts = (t : ThreadId) → count_of counts t ≡ owned_count monitors t

pub record IsKept (f : Inside) : Type 0 where
  pub sound : IsSound (fat_state_in f)
  pub nodes_kept : AreNodesKept f.posts.posts f.posts.nodes f.lines.nodes
  pub counted : AreCounted f.monitors.items f.posts.owned
  pub reserved : vec_len f.monitors + f.spare ≤ vec_capacity f.monitors
