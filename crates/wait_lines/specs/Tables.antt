-- Records of lines in rows of buckets, by the monitors and the roles of their lines.
use Rattle.std.specs.Prelude.{◌≡◌, ⊤, false, if◌then◌else◌, ℕ, suc, ◌+◌, ◌*◌, ◌%◌, ◌<◌, ◌≤◌, List, [], ◌∷◌, ◌++◌}
use Rattle.std.specs.Prelude.{length, max, slice_index_or}
use Rattle.wait_lines.specs.declared.Role.{Role}
use Rattle.wait_lines.specs.declared.Role.TheVariants.{Entry}
use Rattle.wait_lines.specs.Lines.{Key, key, role_number}
use Rattle.wait_lines.specs.declared.links.Stop.{Stop}
use Rattle.wait_lines.specs.declared.links.Stop.TheVariants.{At, End, Free}
use Rattle.wait_lines.specs.Links.{Chart, ends_at, is_node}
use Rattle.wait_lines.specs.Rows.{rows_of, rows_with, moved, row_at, times_number, AreLinked}
use Rattle.wait_lines.specs.Arrivals.{keys_of, tail_of, IsKept}

-- the bucket of a line, of so many
abbrev pub bucket_of : ℕ → ℕ → Role → ℕ
bucket_of buckets m r = (2 * m + role_number r) % buckets

-- a number stands in a row
abbrev pub IsInRow : List (List ℕ) → ℕ → ℕ → Type 0
IsInRow rows k j = 1 ≤ times_number k (row_at rows j)

-- the row of the record of a line with this key and these nodes: that of its bucket, or the first, of vacant records
abbrev pub row_for : ℕ → Key → List ℕ → ℕ
row_for buckets q [] = 0
row_for buckets q (n ∷ ns) = suc (bucket_of buckets q.0 q.1)

-- the row in which a record is looked for
abbrev pub home_of : ℕ → Chart → ℕ → ℕ
home_of buckets c k = row_for buckets (slice_index_or (keys_of c) k (key 0 Entry)) (row_at (tail_of (rows_of c)) k)

-- each record stands there
abbrev pub AreFiled : Chart → List (List ℕ) → ℕ → Type 0
AreFiled c rows buckets = (k : ℕ) → k < length c.ends → IsInRow rows k (home_of buckets c k)

-- what contracts see of a table: its rows, of vacant records and of each bucket; how many records it has, and how
-- many buckets
pub record TableState : Type 0 where
  pub rows : List (List ℕ)
  pub size : ℕ
  pub buckets : ℕ

abbrev pub table_of : Chart → ℕ → TableState
table_of d buckets = record { rows = rows_of d; size = length d.spots; buckets = buckets }

-- the same, with a record at the end of another row
abbrev pub with_move : TableState → ℕ → ℕ → TableState
with_move t k j = record t { rows = moved t.rows k j }

-- the same, where the record of the line that ends at a stop is vacant now, if nobody stands in the line any more
abbrev pub released : Chart → Stop → TableState → TableState
released c (At n) t = t
released c (End k) t = if is_node (ends_at c k).first then t else with_move t k 0
released c Free t = t

abbrev pub IsReleased : Chart → Stop → TableState → Type 0
IsReleased c (At n) t = ⊤
IsReleased c (End k) t = is_node (ends_at c k).first ≡ false → IsInRow t.rows k 0
IsReleased c Free t = ⊤

-- the same, with one more record, which is vacant, and one more row
abbrev pub with_record : TableState → TableState
with_record t = record t { rows = rows_with (t.rows ++ [] ∷ []) t.size 0; size = t.size + 1 }

-- what always holds of the rows of a table
pub record IsTable (d : Chart) (buckets : ℕ) : Type 0 where
  pub linked : AreLinked d (rows_of d)
  pub even : length d.ends ≡ length d.spots
  pub few : length d.spots ≤ 32767
  pub some : 1 ≤ buckets
  pub used : buckets ≤ max 1 (length d.ends)

-- the table has the records of the lines
pub record IsIndexed (c : Chart) (t : TableState) : Type 0 where
  pub sized : t.size ≡ length c.ends
  pub filed : AreFiled c t.rows t.buckets

-- what always holds of the nodes and of the table
pub record IsWhole (c : Chart) (t : TableState) : Type 0 where
  pub kept : IsKept c
  pub indexed : IsIndexed c t
