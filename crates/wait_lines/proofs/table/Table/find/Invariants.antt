use Rattle.std.proofs.Common.{◌≡◌, ◌⊎◌, ◌≤◌, ℕ, suc, false}
use Rattle.wait_lines.specs.Links.{chart, behind_of, ends_at, is_of, IsThere}
use Rattle.wait_lines.specs.Rows.{nodes_from, rows_of, times_number}
use Rattle.wait_lines.specs.Tables.{bucket_of, IsInRow}
use Rattle.wait_lines.proofs.table.Table.find.Given as goal

abbrev pub invariant-loop-left : goal.invariant-loop-left
invariant-loop-left l = record {
  there : IsThere (chart l.self-inside.rows) l.next;
  seen : (k : ℕ) → IsInRow (rows_of (chart l.self-inside.rows)) k (suc (bucket_of l.self-inside.buckets l.monitor l.role))
      → (is_of l.monitor l.role (ends_at (chart l.links) k) ≡ false) ⊎ (1 ≤ times_number k (nodes_from l.left (behind_of (chart l.self-inside.rows)) l.next));
}

abbrev pub decreases-loop-left : goal.decreases-loop-left
decreases-loop-left l = l.left
