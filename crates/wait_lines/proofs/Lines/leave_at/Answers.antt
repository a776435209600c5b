use Rattle.std.proofs.Common.{sym, ap, subst, ◌≡◌, ◌∙◌, ◌<◌, length}
use Rattle.wait_lines.specs.Links.{Chart, chart, node, linked, behind_of, before_of, IsThere}
use Rattle.wait_lines.specs.Rings.{AreRings}
use Rattle.std.specs.FinMap as map
use Rattle.wait_lines.specs.declared.links.Stop.TheVariants.{Free}
use Rattle.wait_lines.specs.Lines.{LinesState, after_leave}
use Rattle.wait_lines.specs.Arrivals.{lines_of, nodes_of, arrivals_of, IsKept}
use Rattle.wait_lines.specs.declared.links.Stop.{Stop}
use Rattle.wait_lines.specs.Tables.{TableState, released, IsReleased, IsWhole}
use Rattle.wait_lines.proofs.IndexLemmas.{IsWhole-freed}
use Rattle.wait_lines.proofs.LinkLemmas.{there-before, there-behind, there-sized}
use Rattle.wait_lines.proofs.RowLemmas.{AreLinked-unlinked}
use Rattle.wait_lines.proofs.LeavingLemmas.{stands-here, freed, sizes_freed, lines_after, nodes_after, IsKept-freed}
use Rattle.wait_lines.proofs.Lines.leave_at.Goals as goal

pub unlink-requires-clause-here : goal.unlink-requires-clause-here
unlink-requires-clause-here c = stands-here (chart c.self.inside.links) c.args.node.0 c.requires.stands.0 c.self.invariant.kept (rw (← c.self.view_is) at c.requires.stands.1)

pub unlink-requires-clause-before : goal.unlink-requires-clause-before
unlink-requires-clause-before c =
    there-before (chart c.self.inside.links) (node c.args.node.0) c.self.invariant.kept.linked.rings
    (stands-here (chart c.self.inside.links) c.args.node.0 c.requires.stands.0 c.self.invariant.kept (rw (← c.self.view_is) at c.requires.stands.1))

pub unlink-requires-clause-behind : goal.unlink-requires-clause-behind
unlink-requires-clause-behind c =
    there-behind (chart c.self.inside.links) (node c.args.node.0) c.self.invariant.kept.linked.rings
    (stands-here (chart c.self.inside.links) c.args.node.0 c.requires.stands.0 c.self.invariant.kept (rw (← c.self.view_is) at c.requires.stands.1))

pub link-requires-clause-here : goal.link-requires-clause-here
link-requires-clause-here c =
    let h = AreLinked-unlinked (chart c.self.inside.links) _ c.args.node.0 c.self.invariant.kept.linked
    (stands-here (chart c.self.inside.links) c.args.node.0 c.requires.stands.0 c.self.invariant.kept (rw (← c.self.view_is) at c.requires.stands.1)) in
    subst (λ (d : Chart). c.args.node.0 < length d.spots) (sym c.unlink.ensures) h.here

pub link-requires-clause-last : goal.link-requires-clause-last
link-requires-clause-last c =
    let h = AreLinked-unlinked (chart c.self.inside.links) _ c.args.node.0 c.self.invariant.kept.linked
    (stands-here (chart c.self.inside.links) c.args.node.0 c.requires.stands.0 c.self.invariant.kept (rw (← c.self.view_is) at c.requires.stands.1)) in
    there-before (chart c.unlink.new.self) Free (subst (λ (d : Chart). AreRings (behind_of d) (before_of d)) (sym c.unlink.ensures) h.rings) tt

pub before-before-requires : goal.before-before-requires
before-before-requires c = (stands-here (chart c.self.inside.links) c.args.node.0 c.requires.stands.0 c.self.invariant.kept (rw (← c.self.view_is) at c.requires.stands.1))

pub release-requires-clause-there : goal.release-requires-clause-there
release-requires-clause-there c =
    let links = chart c.self.inside.links in
    subst (λ (d : Chart). IsThere d c.before-before.result) (sym (c.link.ensures ∙ ap (λ (d : Chart). linked d (node c.args.node.0) Free) c.unlink.ensures))
    (there-sized links (freed links c.args.node.0) c.before-before.result (sizes_freed (chart c.self.inside.links) c.args.node.0 c.requires.stands.0 c.self.invariant.kept (rw (← c.self.view_is) at c.requires.stands.1))
    (subst (λ (s : Stop). IsThere links s) (sym c.before-before.ensures) (there-before links (node c.args.node.0) c.self.invariant.kept.linked.rings (stands-here (chart c.self.inside.links) c.args.node.0 c.requires.stands.0 c.self.invariant.kept (rw (← c.self.view_is) at c.requires.stands.1)))))

pub release-requires-clause-sized : goal.release-requires-clause-sized
release-requires-clause-sized c =
    c.self.invariant.indexed.sized ∙ sym (sizes_freed (chart c.self.inside.links) c.args.node.0 c.requires.stands.0 c.self.invariant.kept (rw (← c.self.view_is) at c.requires.stands.1)).1 ∙ sym (ap (λ (d : Chart). length d.ends) (c.link.ensures ∙ ap (λ (d : Chart). linked d (node c.args.node.0) Free) c.unlink.ensures))

pub invariant_of-self : goal.invariant_of-self
invariant_of-self c =
    let stands = rw (← c.self.view_is) at c.requires.stands.1 in
    let links = chart c.self.inside.links in
    let same : chart c.link.new.self ≡ freed links c.args.node.0 = (c.link.ensures ∙ ap (λ (d : Chart). linked d (node c.args.node.0) Free) c.unlink.ensures) in
    let table : c.release.new.self ≡ released (freed links c.args.node.0) c.before-before.result c.self.inside.table =
    c.release.ensures.released ∙ ap (λ (d : Chart). released d c.before-before.result c.self.inside.table) same in
    subst (λ (d : Chart). IsWhole d c.release.new.self) (sym same)
    (subst (λ (t : TableState). IsWhole (freed links c.args.node.0) t) (sym table)
    (IsWhole-freed links c.self.inside.table c.args.node.0 c.requires.stands.0 c.self.invariant stands c.before-before.result (sym c.before-before.ensures)
    (subst (λ (s : Stop). IsThere links s) (sym c.before-before.ensures) (there-before links (node c.args.node.0) c.self.invariant.kept.linked.rings (stands-here (chart c.self.inside.links) c.args.node.0 c.requires.stands.0 c.self.invariant.kept (rw (← c.self.view_is) at c.requires.stands.1))))
    (subst (λ (t : TableState). IsReleased (freed links c.args.node.0) c.before-before.result t) table
    (subst (λ (d : Chart). IsReleased d c.before-before.result c.release.new.self) same c.release.ensures.here))))

pub returns-clause-reservations : goal.returns-clause-reservations
returns-clause-reservations c =
    ap (λ (d : Chart). length d.spots) (c.link.ensures ∙ ap (λ (d : Chart). linked d (node c.args.node.0) Free) c.unlink.ensures)
    ∙ (sizes_freed (chart c.self.inside.links) c.args.node.0 c.requires.stands.0 c.self.invariant.kept (rw (← c.self.view_is) at c.requires.stands.1)).0
    ∙ ap (λ (x : LinesState). x.reservations) c.self.view_is

pub returns-clause-left : goal.returns-clause-left
returns-clause-left c t m r at_node in_line =
    ap (λ (d : Chart). lines_of (arrivals_of d)) (c.link.ensures ∙ ap (λ (d : Chart). linked d (node c.args.node.0) Free) c.unlink.ensures)
    ∙ (lines_after (chart c.self.inside.links) c.args.node.0 t c.self.invariant.kept (rw (← c.self.view_is) at at_node) m r (rw (← c.self.view_is) at in_line))
    ∙ ap (λ (x : LinesState). after_leave x.lines t m r) c.self.view_is

pub returns-clause-nodes : goal.returns-clause-nodes
returns-clause-nodes c t at_node =
    ap (λ (d : Chart). nodes_of (arrivals_of d)) (c.link.ensures ∙ ap (λ (d : Chart). linked d (node c.args.node.0) Free) c.unlink.ensures)
    ∙ (nodes_after (chart c.self.inside.links) c.args.node.0 t c.self.invariant.kept (rw (← c.self.view_is) at at_node))
    ∙ ap (λ (x : LinesState). map.remove x.nodes t.0) c.self.view_is

pub returns-clause-orderly : goal.returns-clause-orderly
returns-clause-orderly c =
    let h = subst IsKept (sym (c.link.ensures ∙ ap (λ d. linked d (node c.args.node.0) Free) c.unlink.ensures))
    (IsKept-freed (chart c.self.inside.links) c.args.node.0 c.requires.stands.0 c.self.invariant.kept (rw (← c.self.view_is) at c.requires.stands.1)) in
    h.orderly
