use Rattle.std.proofs.Common.{◌∙◌}
use Rattle.live_turns.proofs.Ends.{missed}
use Rattle.live_turns.proofs.numbered.has_number.Goals as goal

pub loop-pass-preserved : goal.loop-pass-preserved
loop-pass-preserved g c =
    missed g.P.Numbered.numbered c.args.passes.now c.args.number c.loop-pass.pass-index c.pass-item.result c.loop-pass-test.true c.pass-item.is (λ e. c.if-number.false (c.number.ensures ∙ e)) c.loop-pass.invariant
