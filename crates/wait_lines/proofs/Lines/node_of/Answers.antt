use Rattle.std.proofs.Common.{subst, IfSome, IfNone, ℕ}
use Rattle.wait_lines.specs.Links.{chart}
use Rattle.wait_lines.specs.Lines.{LinesState, StandsAt, Stands, StandsNowhere}
use Rattle.wait_lines.proofs.FindingLemmas.{found-found, found-somewhere, none-nowhere, none-at}
use Rattle.wait_lines.proofs.Lines.node_of.Goals as goal

pub returns-clause-found : goal.returns-clause-found
returns-clause-found c =
    subst (λ (x : LinesState). IfSome c.node_of.result (λ n. StandsAt x.nodes c.args.thread n.0)) c.self.view_is
    (found-found (chart c.self.inside.links) c.args.thread c.self.invariant.kept c.node_of.result c.node_of.ensures.found)

pub returns-clause-stands : goal.returns-clause-stands
returns-clause-stands c =
    subst (λ (x : LinesState). IfSome c.node_of.result (λ n. Stands x.lines c.args.thread)) c.self.view_is
    (found-somewhere (chart c.self.inside.links) c.args.thread c.node_of.result
    (found-found (chart c.self.inside.links) c.args.thread c.self.invariant.kept c.node_of.result c.node_of.ensures.found))

pub returns-clause-none : goal.returns-clause-none
returns-clause-none c =
    subst (λ (x : LinesState). IfNone c.node_of.result (StandsNowhere x.lines c.args.thread)) c.self.view_is
    (none-nowhere (chart c.self.inside.links) c.args.thread c.self.invariant.kept c.node_of.result c.node_of.ensures.none)

pub returns-clause-no_node : goal.returns-clause-no_node
returns-clause-no_node c =
    subst (λ (x : LinesState). IfNone c.node_of.result ((n : ℕ) → ¬ StandsAt x.nodes c.args.thread n)) c.self.view_is
    (none-at (chart c.self.inside.links) c.args.thread c.node_of.result
    (none-nowhere (chart c.self.inside.links) c.args.thread c.self.invariant.kept c.node_of.result c.node_of.ensures.none))
