use Rattle.std.proofs.Common.{sym, ap, subst, ◌∙◌, arith}
use Rattle.wait_lines.specs.declared.links.Stop.TheVariants.{Free}
use Rattle.wait_lines.specs.Links.{Chart, chart, behind_of, before_of}
use Rattle.wait_lines.specs.Rings.{AreRings}
use Rattle.wait_lines.specs.Tables.{TableState, table_of, with_record, IsTable}
use Rattle.wait_lines.proofs.LinkLemmas.{there-before}
use Rattle.wait_lines.proofs.TableLemmas.{wider, IsTable-wider, table_of-wider}
use Rattle.wait_lines.proofs.table.Table.grow.Goals as goal

pub grow-requires-clause-last : goal.grow-requires-clause-last
grow-requires-clause-last c =
    there-before (chart c.reserve.new.self) Free (subst (λ (d : Chart). AreRings (behind_of d) (before_of d)) (sym c.reserve.ensures.same) c.self.invariant.linked.rings) tt

pub invariant_of-self-2 : goal.invariant_of-self-2
invariant_of-self-2 c =
    subst (λ (d : Chart). IsTable d c.self.inside.buckets) (sym (c.grow.ensures ∙ ap wider c.reserve.ensures.same))
    (IsTable-wider (chart c.self.inside.rows) c.self.inside.buckets c.self.invariant (let e = ap (λ (t : TableState). t.size) c.self.view_is in omega (arith, e, c.requires)))

pub returns-clause-ok : goal.returns-clause-ok
returns-clause-ok c =
    ap (λ (d : Chart). table_of d c.self.inside.buckets) (c.grow.ensures ∙ ap wider c.reserve.ensures.same)
    ∙ table_of-wider (chart c.self.inside.rows) c.self.inside.buckets c.self.invariant (let e = ap (λ (t : TableState). t.size) c.self.view_is in omega (arith, e, c.requires))
    ∙ ap with_record c.self.view_is
