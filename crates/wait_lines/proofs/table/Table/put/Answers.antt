use Rattle.std.proofs.Common.{sym, ap, subst, ◌∙◌, ◌<◌, ◌+◌, length, suc, arith}
use Rattle.wait_lines.specs.declared.links.Stop.TheVariants.{End}
use Rattle.wait_lines.specs.Links.{Chart, chart, node, linked, behind_of, before_of}
use Rattle.wait_lines.specs.Rings.{AreRings}
use Rattle.wait_lines.specs.Tables.{TableState, table_of, with_move, IsInRow, IsTable}
use Rattle.wait_lines.specs.Rows.{rows_of}
use Rattle.wait_lines.proofs.LinkLemmas.{there-before, there-behind, sizes-unlinked}
use Rattle.wait_lines.proofs.TableLemmas.{but-shifted, here-shifted, IsTable-shifted, table_of-shifted}
use Rattle.wait_lines.proofs.table.Table.put.Goals as goal

pub unlink-requires-clause-before : goal.unlink-requires-clause-before
unlink-requires-clause-before c =
    let here : c.args.line < length (chart c.self.inside.rows).spots = omega (arith, ap (λ (t : TableState). t.size) c.self.view_is) in
    there-before (chart c.self.inside.rows) (node c.args.line) c.self.invariant.linked.rings here

pub unlink-requires-clause-behind : goal.unlink-requires-clause-behind
unlink-requires-clause-behind c =
    let here : c.args.line < length (chart c.self.inside.rows).spots = omega (arith, ap (λ (t : TableState). t.size) c.self.view_is) in
    there-behind (chart c.self.inside.rows) (node c.args.line) c.self.invariant.linked.rings here

pub link-requires-clause-last : goal.link-requires-clause-last
link-requires-clause-last c =
    let here : c.args.line < length (chart c.self.inside.rows).spots = omega (arith, ap (λ (t : TableState). t.size) c.self.view_is) in
    let there : suc c.bucket-bucket.result < length (chart c.self.inside.rows).ends + 1 =
    omega (arith, c.bucket-bucket.ensures.low, ap (λ (t : TableState). t.buckets) c.self.view_is, c.self.invariant.used, c.self.invariant.even) in
    let but = but-shifted (chart c.self.inside.rows) c.self.inside.buckets c.args.line (suc c.bucket-bucket.result) c.self.invariant here there in
    there-before (chart c.unlink.new.self) (End c.bucket-bucket.result) (subst (λ (d : Chart). AreRings (behind_of d) (before_of d)) (sym c.unlink.ensures) but.rings)
    (omega (arith, there, (sizes-unlinked (chart c.self.inside.rows) (node c.args.line) c.self.invariant.linked.rings here).1, ap (λ (d : Chart). length d.ends) c.unlink.ensures))

pub invariant_of-self : goal.invariant_of-self
invariant_of-self c =
    let here : c.args.line < length (chart c.self.inside.rows).spots = omega (arith, ap (λ (t : TableState). t.size) c.self.view_is) in
    let there : suc c.bucket-bucket.result < length (chart c.self.inside.rows).ends + 1 =
    omega (arith, c.bucket-bucket.ensures.low, ap (λ (t : TableState). t.buckets) c.self.view_is, c.self.invariant.used, c.self.invariant.even) in
    subst (λ (d : Chart). IsTable d c.self.inside.buckets) (sym (c.link.ensures ∙ ap (λ (d : Chart). linked d (node c.args.line) (End c.bucket-bucket.result)) c.unlink.ensures))
    (IsTable-shifted (chart c.self.inside.rows) c.self.inside.buckets c.args.line (suc c.bucket-bucket.result) c.self.invariant here there)

pub returns-clause-moved : goal.returns-clause-moved
returns-clause-moved c =
    let here : c.args.line < length (chart c.self.inside.rows).spots = omega (arith, ap (λ (t : TableState). t.size) c.self.view_is) in
    let there : suc c.bucket-bucket.result < length (chart c.self.inside.rows).ends + 1 =
    omega (arith, c.bucket-bucket.ensures.low, ap (λ (t : TableState). t.buckets) c.self.view_is, c.self.invariant.used, c.self.invariant.even) in
    ap (λ (d : Chart). table_of d c.self.inside.buckets) (c.link.ensures ∙ ap (λ (d : Chart). linked d (node c.args.line) (End c.bucket-bucket.result)) c.unlink.ensures)
    ∙ table_of-shifted (chart c.self.inside.rows) c.self.inside.buckets c.args.line (suc c.bucket-bucket.result) c.self.invariant here there
    ∙ ap (λ (t : TableState). with_move t c.args.line (suc c.bucket-bucket.result)) c.self.view_is
    ∙ ap (λ b. with_move c.args.self.now c.args.line (suc b)) c.bucket-bucket.ensures.value

pub returns-clause-here : goal.returns-clause-here
returns-clause-here c =
    let here : c.args.line < length (chart c.self.inside.rows).spots = omega (arith, ap (λ (t : TableState). t.size) c.self.view_is) in
    let there : suc c.bucket-bucket.result < length (chart c.self.inside.rows).ends + 1 =
    omega (arith, c.bucket-bucket.ensures.low, ap (λ (t : TableState). t.buckets) c.self.view_is, c.self.invariant.used, c.self.invariant.even) in
    subst (λ b. IsInRow (rows_of (chart c.link.new.self)) c.args.line (suc b)) c.bucket-bucket.ensures.value
    (subst (λ (d : Chart). IsInRow (rows_of d) c.args.line (suc c.bucket-bucket.result)) (sym (c.link.ensures ∙ ap (λ (d : Chart). linked d (node c.args.line) (End c.bucket-bucket.result)) c.unlink.ensures))
    (here-shifted (chart c.self.inside.rows) c.self.inside.buckets c.args.line (suc c.bucket-bucket.result) c.self.invariant here there))
