use Rattle.wait_lines.specs.Links.{chart}
use Rattle.wait_lines.proofs.IndexLemmas.{AreHalfFiled}
use Rattle.wait_lines.proofs.table.Table.spread.Given as goal

abbrev pub invariant-loop-line : goal.invariant-loop-line
invariant-loop-line l = AreHalfFiled (chart l.links) l.self l.fn.self.buckets l.line
