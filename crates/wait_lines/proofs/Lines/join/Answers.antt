use Rattle.std.proofs.Common.{sym, ap, subst, rules, ◌∙◌, ◌<◌, suc, length, arith}
use Rattle.std.specs.FinMap as map
use Rattle.wait_lines.specs.declared.links.Stop.TheVariants.{End}
use Rattle.wait_lines.specs.Links.{Chart, chart, node, linked, behind_of, before_of}
use Rattle.wait_lines.specs.Rings.{AreRings}
use Rattle.wait_lines.specs.Lines.{LinesState, after_join}
use Rattle.wait_lines.specs.Arrivals.{lines_of, nodes_of, arrivals_of, IsKept}
use Rattle.wait_lines.specs.Tables.{TableState, bucket_of, IsInRow, IsIndexed}
use Rattle.wait_lines.proofs.IndexLemmas.{IsIndexed-joined}
use Rattle.wait_lines.proofs.LinkLemmas.{there-before, there-behind}
use Rattle.wait_lines.proofs.JoiningLemmas.{some-free, some-vacant, free-here, but-unlinked, but-taken, after, sizes_joined, lines_joined, nodes_joined, IsKept-joined}
use Rattle.wait_lines.proofs.FindingLemmas.{line_for-fits, line_for-none, no-node, taken-is}
use Rattle.wait_lines.proofs.Lines.join.Goals as goal

pub unreachable-requires : goal.unreachable-requires
unreachable-requires c = some-free (chart c.self.inside.links) c.self.invariant.kept (rw (← c.self.view_is) at c.requires.room) (no-node c.self.inside.links.first_free c.in_default.not-At)

pub unreachable-requires-in_default-line_for : goal.unreachable-requires-in_default-line_for
unreachable-requires-in_default-line_for c = some-vacant (chart c.self.inside.links) c.self.invariant.kept (rw (← c.self.view_is) at c.requires.room) c.in_default-line_for.ensures.none

pub unlink-requires-clause-here : goal.unlink-requires-clause-here
unlink-requires-clause-here c = free-here (chart c.self.inside.links) c.in-At.node.0 c.args.thread c.in-Some.line c.args.monitor c.args.role c.self.invariant.kept c.in-At.is

pub unlink-requires-clause-before : goal.unlink-requires-clause-before
unlink-requires-clause-before c = there-before (chart c.self.inside.links) (node c.in-At.node.0) c.self.invariant.kept.linked.rings (free-here (chart c.self.inside.links) c.in-At.node.0 c.args.thread c.in-Some.line c.args.monitor c.args.role c.self.invariant.kept c.in-At.is)

pub unlink-requires-clause-behind : goal.unlink-requires-clause-behind
unlink-requires-clause-behind c = there-behind (chart c.self.inside.links) (node c.in-At.node.0) c.self.invariant.kept.linked.rings (free-here (chart c.self.inside.links) c.in-At.node.0 c.args.thread c.in-Some.line c.args.monitor c.args.role c.self.invariant.kept c.in-At.is)

pub put_thread-requires : goal.put_thread-requires
put_thread-requires c =
    subst (λ (d : Chart). c.in-At.node.0 < length d.spots) (sym c.unlink.ensures) (but-unlinked (chart c.self.inside.links) c.in-At.node.0 c.args.thread c.in-Some.line c.args.monitor c.args.role c.self.invariant.kept c.in-At.is).here

pub link-requires-clause-here : goal.link-requires-clause-here
link-requires-clause-here c =
    subst (λ (d : Chart). c.in-At.node.0 < length d.spots) (sym (taken-is (chart c.self.inside.links) (chart c.unlink.new.self) (chart c.put_thread.new.self) (chart c.name.new.self) c.in-At.node.0 c.args.thread c.in-Some.line c.args.monitor c.args.role c.unlink.ensures c.put_thread.ensures c.name.ensures))
    (but-taken (chart c.self.inside.links) c.in-At.node.0 c.args.thread c.in-Some.line c.args.monitor c.args.role c.self.invariant.kept c.in-At.is c.in-Some.ensures.found).here

pub link-requires-clause-last : goal.link-requires-clause-last
link-requires-clause-last c =
    there-before (chart c.name.new.self) (End c.in-Some.line)
    (subst (λ (d : Chart). AreRings (behind_of d) (before_of d)) (sym (taken-is (chart c.self.inside.links) (chart c.unlink.new.self) (chart c.put_thread.new.self) (chart c.name.new.self) c.in-At.node.0 c.args.thread c.in-Some.line c.args.monitor c.args.role c.unlink.ensures c.put_thread.ensures c.name.ensures))
    (but-taken (chart c.self.inside.links) c.in-At.node.0 c.args.thread c.in-Some.line c.args.monitor c.args.role c.self.invariant.kept c.in-At.is c.in-Some.ensures.found).rings)
    (search rules)

pub put-requires : goal.put-requires
put-requires c = omega (arith, c.in-Some.ensures.found, c.self.invariant.indexed.sized)

pub invariant_of-self : goal.invariant_of-self
invariant_of-self c =
    record {
      kept =
          subst IsKept (sym (c.link.ensures ∙ ap (λ (d : Chart). linked d (node c.in-At.node.0) (End c.in-Some.line)) (taken-is (chart c.self.inside.links) (chart c.unlink.new.self) (chart c.put_thread.new.self) (chart c.name.new.self) c.in-At.node.0 c.args.thread c.in-Some.line c.args.monitor c.args.role c.unlink.ensures c.put_thread.ensures c.name.ensures)))
          (IsKept-joined (chart c.self.inside.links) c.in-At.node.0 c.args.thread c.in-Some.line c.args.monitor c.args.role c.self.invariant.kept c.in-At.is c.in-Some.ensures.found (rw (← c.self.view_is) at c.requires.nowhere) (rw (← c.self.view_is) at c.requires.room)
          (line_for-fits (chart c.self.inside.links) c.args.monitor c.args.role c.in-Some.line c.self.invariant.kept c.in-Some.ensures.found c.in-Some.ensures.fits)
          (line_for-none (chart c.self.inside.links) c.args.monitor c.args.role c.in-Some.line c.self.invariant.kept c.in-Some.ensures.found c.in-Some.ensures.fits));
      indexed =
          subst (λ (d : Chart). IsIndexed d c.put.new.self) (sym (c.link.ensures ∙ ap (λ (d : Chart). linked d (node c.in-At.node.0) (End c.in-Some.line)) (taken-is (chart c.self.inside.links) (chart c.unlink.new.self) (chart c.put_thread.new.self) (chart c.name.new.self) c.in-At.node.0 c.args.thread c.in-Some.line c.args.monitor c.args.role c.unlink.ensures c.put_thread.ensures c.name.ensures)))
          (subst (λ (t : TableState). IsIndexed (after (chart c.self.inside.links) c.in-At.node.0 c.args.thread c.in-Some.line c.args.monitor c.args.role c.self.invariant.kept c.in-At.is c.in-Some.ensures.found) t) (sym c.put.ensures.moved)
          (IsIndexed-joined (chart c.self.inside.links) c.self.inside.table c.in-At.node.0 c.args.thread c.in-Some.line c.args.monitor c.args.role c.self.invariant c.in-At.is c.in-Some.ensures.found
          (subst (λ (t : TableState). IsInRow t.rows c.in-Some.line (suc (bucket_of c.self.inside.table.buckets c.args.monitor c.args.role))) c.put.ensures.moved c.put.ensures.here)));
    }

pub returns-clause-reservations : goal.returns-clause-reservations
returns-clause-reservations c =
    ap (λ (d : Chart). length d.spots) (c.link.ensures ∙ ap (λ (d : Chart). linked d (node c.in-At.node.0) (End c.in-Some.line)) (taken-is (chart c.self.inside.links) (chart c.unlink.new.self) (chart c.put_thread.new.self) (chart c.name.new.self) c.in-At.node.0 c.args.thread c.in-Some.line c.args.monitor c.args.role c.unlink.ensures c.put_thread.ensures c.name.ensures))
    ∙ (sizes_joined (chart c.self.inside.links) c.in-At.node.0 c.args.thread c.in-Some.line c.args.monitor c.args.role c.self.invariant.kept c.in-At.is c.in-Some.ensures.found).0
    ∙ ap (λ (x : LinesState). x.reservations) c.self.view_is

pub returns-clause-joined : goal.returns-clause-joined
returns-clause-joined c =
    ap (λ (d : Chart). lines_of (arrivals_of d)) (c.link.ensures ∙ ap (λ (d : Chart). linked d (node c.in-At.node.0) (End c.in-Some.line)) (taken-is (chart c.self.inside.links) (chart c.unlink.new.self) (chart c.put_thread.new.self) (chart c.name.new.self) c.in-At.node.0 c.args.thread c.in-Some.line c.args.monitor c.args.role c.unlink.ensures c.put_thread.ensures c.name.ensures))
    ∙ lines_joined (chart c.self.inside.links) c.in-At.node.0 c.args.thread c.in-Some.line c.args.monitor c.args.role c.self.invariant.kept c.in-At.is c.in-Some.ensures.found (rw (← c.self.view_is) at c.requires.nowhere) (rw (← c.self.view_is) at c.requires.room)
    (line_for-fits (chart c.self.inside.links) c.args.monitor c.args.role c.in-Some.line c.self.invariant.kept c.in-Some.ensures.found c.in-Some.ensures.fits)
    (line_for-none (chart c.self.inside.links) c.args.monitor c.args.role c.in-Some.line c.self.invariant.kept c.in-Some.ensures.found c.in-Some.ensures.fits)
    ∙ ap (λ (x : LinesState). after_join x.lines c.args.thread c.args.monitor c.args.role) c.self.view_is

pub returns-clause-node : goal.returns-clause-node
returns-clause-node c =
    ap (λ (d : Chart). nodes_of (arrivals_of d)) (c.link.ensures ∙ ap (λ (d : Chart). linked d (node c.in-At.node.0) (End c.in-Some.line)) (taken-is (chart c.self.inside.links) (chart c.unlink.new.self) (chart c.put_thread.new.self) (chart c.name.new.self) c.in-At.node.0 c.args.thread c.in-Some.line c.args.monitor c.args.role c.unlink.ensures c.put_thread.ensures c.name.ensures))
    ∙ nodes_joined (chart c.self.inside.links) c.in-At.node.0 c.args.thread c.in-Some.line c.args.monitor c.args.role c.self.invariant.kept c.in-At.is c.in-Some.ensures.found (rw (← c.self.view_is) at c.requires.nowhere) (rw (← c.self.view_is) at c.requires.room)
    (line_for-fits (chart c.self.inside.links) c.args.monitor c.args.role c.in-Some.line c.self.invariant.kept c.in-Some.ensures.found c.in-Some.ensures.fits)
    (line_for-none (chart c.self.inside.links) c.args.monitor c.args.role c.in-Some.line c.self.invariant.kept c.in-Some.ensures.found c.in-Some.ensures.fits)
    ∙ ap (λ (x : LinesState). map.insert x.nodes c.args.thread.0 c.in-At.node.0) c.self.view_is

pub returns-clause-orderly : goal.returns-clause-orderly
returns-clause-orderly c =
    let h = subst IsKept (sym (c.link.ensures ∙ ap (λ (d : Chart). linked d (node c.in-At.node.0) (End c.in-Some.line)) (taken-is (chart c.self.inside.links) (chart c.unlink.new.self) (chart c.put_thread.new.self) (chart c.name.new.self) c.in-At.node.0 c.args.thread c.in-Some.line c.args.monitor c.args.role c.unlink.ensures c.put_thread.ensures c.name.ensures)))
    (IsKept-joined (chart c.self.inside.links) c.in-At.node.0 c.args.thread c.in-Some.line c.args.monitor c.args.role c.self.invariant.kept c.in-At.is c.in-Some.ensures.found (rw (← c.self.view_is) at c.requires.nowhere) (rw (← c.self.view_is) at c.requires.room)
    (line_for-fits (chart c.self.inside.links) c.args.monitor c.args.role c.in-Some.line c.self.invariant.kept c.in-Some.ensures.found c.in-Some.ensures.fits)
    (line_for-none (chart c.self.inside.links) c.args.monitor c.args.role c.in-Some.line c.self.invariant.kept c.in-Some.ensures.found c.in-Some.ensures.fits)) in
    h.orderly
