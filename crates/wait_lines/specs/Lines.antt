-- Which threads wait in which line, in order of joining.
use Rattle.std.specs.Prelude.{◌≡◌, ◌≢◌, ℕ, ◌==◌, ◌≤◌, Bool, not, List, [], ◌∷◌, ◌++◌, length, filter, count_by, sum_by}
use Rattle.std.specs.Prelude.{Contains, Some}
use Rattle.std.specs.Option.{unwrap_or}
use Rattle.std.specs.Ordering.{nat_cmp, ordering_then}
use Rattle.std.specs.declared.cmp.Ordering.{Ordering}
use Rattle.std.specs.FinMap as map
use Rattle.lock_word.specs.declared.ThreadId.{ThreadId}
use Rattle.wait_lines.specs.declared.Role.{Role}
use Rattle.wait_lines.specs.declared.Role.TheVariants.{Entry, Waiting}

-- a line's key: the number of its monitor, and its role
abbrev pub Key : Type 0
Key = ℕ × Role

abbrev pub key : ℕ → Role → Key
key monitor role = (monitor, role)

-- a monitor's entry line stands before its wait set
abbrev pub role_number : Role → ℕ
role_number Entry = 0
role_number Waiting = 1

abbrev pub key_cmp : Key → Key → Ordering
key_cmp a b = ordering_then (nat_cmp a.0 b.0) (nat_cmp (role_number a.1) (role_number b.1))

-- the threads of each line that has some
abbrev pub LineMap : Type 0
LineMap = map.FinMap key_cmp (List ThreadId)

-- the threads of a line, in order of joining
abbrev pub line : LineMap → ℕ → Role → List ThreadId
line lines m r = unwrap_or (map.get lines (key m r)) []

-- the lines with this list at this key
abbrev pub with_line : LineMap → ℕ → Role → List ThreadId → LineMap
with_line lines m r [] = map.remove lines (key m r)
with_line lines m r (t ∷ ts) = map.insert lines (key m r) (t ∷ ts)

-- the thread stands in this line, in some line, in none
abbrev pub StandsIn : LineMap → ThreadId → ℕ → Role → Type 0
StandsIn lines t m r = Contains (line lines m r) t

abbrev pub Stands : LineMap → ThreadId → Type 0
Stands lines t = (m : ℕ) × (r : Role) × StandsIn lines t m r

abbrev pub StandsNowhere : LineMap → ThreadId → Type 0
StandsNowhere lines t = (m : ℕ) (r : Role) → ¬ StandsIn lines t m r

-- whether the second is the first
abbrev pub is_thread : ThreadId → ThreadId → Bool
is_thread t u = u.0 == t.0

-- the list without a thread
abbrev pub without : ThreadId → List ThreadId → List ThreadId
without t ts = filter (λ u. not (is_thread t u)) ts

-- how often a thread stands in a list
abbrev pub times_in : ThreadId → List ThreadId → ℕ
times_in t ts = count_by (is_thread t) ts

-- the lines after a thread joined one at its end, and after it left the one that it stood in
abbrev pub after_join : LineMap → ThreadId → ℕ → Role → LineMap
after_join lines t m r = with_line lines m r (line lines m r ++ t ∷ [])

abbrev pub after_leave : LineMap → ThreadId → ℕ → Role → LineMap
after_leave lines t m r = with_line lines m r (without t (line lines m r))

-- how many threads stand in lines
abbrev pub total_count : LineMap → ℕ
total_count lines = sum_by length (map.values lines)

-- no line is kept with no thread in it
abbrev pub IsFilled : LineMap → Type 0
IsFilled lines = (m : ℕ) (r : Role) → map.get lines (key m r) ≢ Some []

-- who stands where, and for how many threads there is room
pub record Standing : Type 0 where
  pub lines : LineMap
  pub reservations : ℕ

-- the node of each thread that stands in a line
abbrev pub NodeMap : Type 0
NodeMap = map.FinMap nat_cmp ℕ

-- a thread stands at this node
abbrev pub StandsAt : NodeMap → ThreadId → ℕ → Type 0
StandsAt nodes t n = map.get nodes t.0 ≡ Some n

-- who stands where, at which node, and for how many threads there is room
pub record LinesState : Type 0 where
  pub lines : LineMap
  pub nodes : NodeMap
  pub reservations : ℕ

-- the same, but for the nodes
abbrev pub standing : LinesState → Standing
standing s = record { lines = s.lines; reservations = s.reservations }

-- nobody stands anywhere, and there is room for nobody
abbrev pub nobody : Standing
nobody = record { lines = map.empty; reservations = 0 }

-- what always holds of lines and reservations
pub record IsOrderly (s : Standing) : Type 0 where
  pub one_line : (t : ThreadId) (m n : ℕ) (r q : Role) → StandsIn s.lines t m r → StandsIn s.lines t n q
      → (m ≡ n) × (r ≡ q)
  pub once : (t : ThreadId) (m : ℕ) (r : Role) → times_in t (line s.lines m r) ≤ 1
  pub filled : IsFilled s.lines
  pub within : total_count s.lines ≤ s.reservations
  pub few : s.reservations ≤ 32767
