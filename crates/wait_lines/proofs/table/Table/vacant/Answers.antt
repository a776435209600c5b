use Rattle.std.proofs.Common.{◌≡◌, ◌<◌, ℕ, subst, arith}
use Rattle.wait_lines.specs.declared.links.Stop.TheVariants.{Free}
use Rattle.wait_lines.specs.Links.{chart, behind_of}
use Rattle.wait_lines.specs.Rows.{rows_of, row_at}
use Rattle.wait_lines.specs.Tables.{TableState, IsInRow}
use Rattle.wait_lines.proofs.RowLemmas.{end_at-IsEnd}
use Rattle.wait_lines.proofs.TableLemmas.{first-in_row, in_one_row}
use Rattle.wait_lines.proofs.table.Table.vacant.Goals as goal

pub returns-in-At-clause-found : goal.returns-in-At-clause-found
returns-in-At-clause-found c =
    let d = chart c.self.inside.rows in
    let first = first-in_row (behind_of d) Free (row_at (rows_of d) 0) Free c.in-At.line.0 (end_at-IsEnd 0) (c.self.invariant.linked.walks 0 (omega arith)) c.in-At.is in
    subst (λ (t : TableState). c.in-At.line.0 < t.size) c.self.view_is (in_one_row d (rows_of d) c.in-At.line.0 c.self.invariant.linked first).0

pub returns-in-At-clause-vacant : goal.returns-in-At-clause-vacant
returns-in-At-clause-vacant c =
    let d = chart c.self.inside.rows in
    let first = first-in_row (behind_of d) Free (row_at (rows_of d) 0) Free c.in-At.line.0 (end_at-IsEnd 0) (c.self.invariant.linked.walks 0 (omega arith)) c.in-At.is in
    subst (λ (t : TableState). (j : ℕ) → IsInRow t.rows c.in-At.line.0 j → j ≡ 0) c.self.view_is (in_one_row d (rows_of d) c.in-At.line.0 c.self.invariant.linked first).1
