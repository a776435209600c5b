-- The lines that the rows of nodes show.
use Rattle.std.specs.Prelude.{◌≡◌, ℕ, ◌==◌, ◌<◌, ◌≤◌, ◌&&◌, Bool, List, [], ◌∷◌, ◌++◌, map as list_map, filter, length}
use Rattle.std.specs.Prelude.{slice_index_or, count_by}
use Rattle.std.specs.Ordering.{nat_cmp}
use Rattle.std.specs.FinMap as map
use Rattle.lock_word.specs.declared.ThreadId.{ThreadId}
use Rattle.wait_lines.specs.declared.Role.{Role}
use Rattle.wait_lines.specs.declared.Role.TheVariants.{Entry}
use Rattle.wait_lines.specs.declared.links.Spot.{Spot}
use Rattle.wait_lines.specs.declared.links.Ends.{Ends}
use Rattle.wait_lines.specs.Lines.{LineMap, Key, key, line, with_line, role_number, is_thread, Standing, LinesState}
use Rattle.wait_lines.specs.Lines.{standing, IsOrderly}
use Rattle.wait_lines.specs.Links.{Chart}
use Rattle.wait_lines.specs.Rows.{rows_of, row_at, AreLinked}

-- a thread that stands at a node, in a line
pub record Arrival : Type 0 where
  pub thread : ThreadId
  pub monitor : ℕ
  pub role : Role
  pub node : ℕ

-- whether the thread that arrived stands in this line, and at this node
abbrev pub is_in : ℕ → Role → Arrival → Bool
is_in m r a = (a.monitor == m) && (role_number a.role == role_number r)

abbrev pub is_at : ℕ → Arrival → Bool
is_at n a = a.node == n

-- the threads that stand in a line, in order of arrival
abbrev pub threads_in : List Arrival → ℕ → Role → List ThreadId
threads_in arrivals m r = list_map (λ a. a.thread) (filter (is_in m r) arrivals)

abbrev pub lines_of : List Arrival → LineMap
lines_of [] = map.empty
lines_of (a ∷ arrivals) =
    with_line (lines_of arrivals) a.monitor a.role (a.thread ∷ line (lines_of arrivals) a.monitor a.role)

abbrev pub nodes_of : List Arrival → map.FinMap nat_cmp ℕ
nodes_of [] = map.empty
nodes_of (a ∷ arrivals) = map.insert (nodes_of arrivals) a.thread.0 a.node

abbrev pub standing_of : List Arrival → ℕ → Standing
standing_of arrivals reservations = record { lines = lines_of arrivals; reservations = reservations }

-- what the chart says of threads and of lines
abbrev pub threads_of : Chart → List ThreadId
threads_of c = list_map (λ (s : Spot). s.thread) c.spots

abbrev pub keys_of : Chart → List Key
keys_of c = list_map (λ (e : Ends). key e.monitor e.role) c.ends

abbrev pub arrival : List ThreadId → Key → ℕ → Arrival
arrival ts k n = record { thread = slice_index_or ts n (record { 0 = 0 }); monitor = k.0; role = k.1; node = n }

-- those who stand in the lines with these keys and rows
abbrev pub arrivals_in : List ThreadId → List Key → List (List ℕ) → List Arrival
arrivals_in ts [] rows = []
arrivals_in ts (k ∷ ks) [] = []
arrivals_in ts (k ∷ ks) (r ∷ rs) = list_map (arrival ts k) r ++ arrivals_in ts ks rs

abbrev pub tail_of : List (List ℕ) → List (List ℕ)
tail_of [] = []
tail_of (r ∷ rs) = rs

abbrev pub arrivals_of : Chart → List Arrival
arrivals_of c = arrivals_in (threads_of c) (keys_of c) (tail_of (rows_of c))

abbrev pub shown_lines : Chart → LinesState
shown_lines c = record {
  lines = lines_of (arrivals_of c);
  nodes = nodes_of (arrivals_of c);
  reservations = length c.spots;
}

-- each line has one record
abbrev pub HaveOne : List Key → List (List ℕ) → Type 0
HaveOne ks rs =
    (i j : ℕ) → i < length ks → j < length ks
    → slice_index_or ks i (key 0 Entry) ≡ slice_index_or ks j (key 0 Entry)
    → 0 < length (row_at rs i) → 0 < length (row_at rs j) → i ≡ j

-- what always holds of the chart
pub record IsKept (c : Chart) : Type 0 where
  pub linked : AreLinked c (rows_of c)
  pub orderly : IsOrderly (standing (shown_lines c))
  pub solo : (t : ThreadId) → count_by (λ (a : Arrival). is_thread t a.thread) (arrivals_of c) ≤ 1
  pub even : length c.ends ≡ length c.spots
  pub one : HaveOne (keys_of c) (tail_of (rows_of c))
