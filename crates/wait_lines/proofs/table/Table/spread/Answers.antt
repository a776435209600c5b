use Rattle.std.proofs.Common.{List, ap, sym, subst, ◌≡◌, ◌∙◌, ◌<◌, ◌+◌, suc, length, slice_index_or, arith}
use Rattle.std.proofs.lemmas.List.{get_or_default}
use Rattle.wait_lines.specs.declared.links.Ends.{Ends}
use Rattle.wait_lines.specs.declared.links.Stop.TheVariants.{At, End}
use Rattle.wait_lines.specs.declared.Role.TheVariants.{Entry}
use Rattle.wait_lines.specs.Links.{chart, ends_at, unused, is_node}
use Rattle.wait_lines.specs.Tables.{TableState, bucket_of, with_move, IsInRow}
use Rattle.wait_lines.proofs.IndexLemmas.{AreHalfFiled, AreHalfFiled-put, AreHalfFiled-vacant}
use Rattle.wait_lines.proofs.table.Table.spread.Goals as goal
use Rattle.wait_lines.proofs.table.Table.spread.Goals.{then-is_node, else-is_node}

pub loop-line-preserved : goal.loop-line-preserved
loop-line-preserved c =
    let line = c.loop-line.line in
    let links = chart c.args.links.now in
    let there : line < length links.ends = omega (arith, ap (λ (xs : List Ends). length xs) c.deref-ends-items.ensures.value) in
    let item : slice_index_or c.deref-ends-items.result.now line (record { monitor = 0; role = Entry; first = At (record { 0 = 0 }); last = At (record { 0 = 0 }) }) ≡ ends_at links line =
    ap (λ (xs : List Ends). slice_index_or xs line (record { monitor = 0; role = Entry; first = At (record { 0 = 0 }); last = At (record { 0 = 0 }) })) c.deref-ends-items.ensures.value
    ∙ get_or_default links.ends line _ (unused (End line)) there in
    let shown = ap (λ (x : Ends). is_node x.first) (sym item) ∙ sym c.is_node.ensures in
    elim c.if-is_node.branch [
      | then-is_node w ↦
          subst (λ (t : TableState). AreHalfFiled links t c.args.self.now.buckets (line + 1))
          (ap (λ (x : Ends). with_move c.loop-line.self line (suc (bucket_of c.loop-line.self.buckets x.monitor x.role))) (sym item) ∙ sym w.put.ensures.moved ∙ sym w.self-is)
          (AreHalfFiled-put links c.loop-line.self c.args.self.now.buckets line c.requires.kept there (shown ∙ w.if-is_node.true) c.loop-line.invariant
          (subst (λ (x : Ends). IsInRow (with_move c.loop-line.self line (suc (bucket_of c.loop-line.self.buckets x.monitor x.role))).rows line (suc (bucket_of c.loop-line.self.buckets x.monitor x.role))) item
          (subst (λ (t : TableState). IsInRow t.rows line _) w.put.ensures.moved w.put.ensures.here)))
      | else-is_node w ↦
          subst (λ (t : TableState). AreHalfFiled links t c.args.self.now.buckets (line + 1)) (sym w.self-is)
          (AreHalfFiled-vacant links c.loop-line.self c.args.self.now.buckets line c.requires.kept there (shown ∙ w.if-is_node.false) c.loop-line.invariant)
    ]
