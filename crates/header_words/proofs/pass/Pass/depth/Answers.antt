use Rattle.std.proofs.Common.{◌≡◌, ◌<◌, length, refl, ap, ◌∙◌}
use Rattle.header_words.specs.Events.{depth}
use Rattle.header_words.specs.Passes.{PassValue}
use Rattle.header_words.proofs.Passes.{in_row, read_at, holds_thinly}
use Rattle.header_words.proofs.pass.Pass.depth.Goals as goal

pub returns-clause-thin : goal.returns-clause-thin
returns-clause-thin g c =
    let p = c.self.inside in
    let inside : c.args.object.0 < length p.depths.items = in_row p.index p.depths.items p.lows.items p.has_gate p.seat c.args.self.now c.args.self.now.opening c.args.object.0 c.self.invariant c.self.view_is refl c.requires in
    let is : c.index.result.now ≡ depth c.args.object.0 c.args.self.now.mine =
    read_at p.depths.items c.args.object.0 c.index.result.now inside c.index.ensures ∙ (c.self.invariant.rows c.args.object.0 inside ∙ ap (λ (q : PassValue). depth c.args.object.0 q.mine) c.self.view_is) in
    holds_thinly p.index p.depths.items p.lows.items p.has_gate p.seat c.args.self.now c.args.object.0 c.index.result.now c.self.invariant c.self.view_is is
