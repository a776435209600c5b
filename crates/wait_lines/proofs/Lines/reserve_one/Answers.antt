use Rattle.std.proofs.Common.{ap, sym, subst, ◌∙◌}
use Rattle.wait_lines.specs.declared.links.Stop.TheVariants.{Free}
use Rattle.wait_lines.specs.Links.{Chart, chart, behind_of, before_of}
use Rattle.wait_lines.specs.Rings.{AreRings}
use Rattle.wait_lines.specs.Lines.{LinesState}
use Rattle.wait_lines.specs.Arrivals.{lines_of, nodes_of, arrivals_of, IsKept}
use Rattle.wait_lines.specs.Tables.{TableState, IsIndexed}
use Rattle.wait_lines.proofs.LinkLemmas.{there-before}
use Rattle.wait_lines.proofs.GrowingLemmas.{reserved, arrivals_reserved, IsKept-reserved}
use Rattle.wait_lines.proofs.IndexLemmas.{IsIndexed-reserved}
use Rattle.wait_lines.proofs.Lines.reserve_one.Goals as goal

pub grow-requires-2-clause-last : goal.grow-requires-2-clause-last
grow-requires-2-clause-last c =
    there-before (chart c.reserve.new.self) Free (subst (λ (d : Chart). AreRings (behind_of d) (before_of d)) (sym c.reserve.ensures.same) c.self.invariant.kept.linked.rings) tt

pub spread-requires : goal.spread-requires
spread-requires c =
    record {
      kept = subst IsKept (sym (c.grow-2.ensures ∙ ap reserved c.reserve.ensures.same)) (IsKept-reserved (chart c.self.inside.links) c.self.invariant.kept (rw (← c.self.view_is) at c.requires));
      indexed =
          subst (λ (d : Chart). IsIndexed d c.grow.new.self) (sym (c.grow-2.ensures ∙ ap reserved c.reserve.ensures.same))
          (subst (λ (t : TableState). IsIndexed (reserved (chart c.self.inside.links)) t) (sym c.in_ok-grow.ensures.ok)
          (IsIndexed-reserved (chart c.self.inside.links) c.self.inside.table c.self.invariant (rw (← c.self.view_is) at c.requires)));
    }

pub returns-clause-lines : goal.returns-clause-lines
returns-clause-lines c =
    ap (λ (d : Chart). lines_of (arrivals_of d)) (c.grow-2.ensures ∙ ap reserved c.reserve.ensures.same)
    ∙ ap lines_of (arrivals_reserved (chart c.self.inside.links) c.self.invariant.kept (rw (← c.self.view_is) at c.requires))
    ∙ ap (λ (x : LinesState). x.lines) c.self.view_is

pub returns-clause-nodes : goal.returns-clause-nodes
returns-clause-nodes c =
    ap (λ (d : Chart). nodes_of (arrivals_of d)) (c.grow-2.ensures ∙ ap reserved c.reserve.ensures.same)
    ∙ ap nodes_of (arrivals_reserved (chart c.self.inside.links) c.self.invariant.kept (rw (← c.self.view_is) at c.requires))
    ∙ ap (λ (x : LinesState). x.nodes) c.self.view_is

pub returns-clause-orderly : goal.returns-clause-orderly
returns-clause-orderly c = (subst IsKept (sym (c.grow-2.ensures ∙ ap reserved c.reserve.ensures.same)) (IsKept-reserved (chart c.self.inside.links) c.self.invariant.kept (rw (← c.self.view_is) at c.requires))).orderly
