use Rattle.std.proofs.Common.{arith, List, map, ap, ◌∙◌}
use Rattle.std.proofs.lemmas.Grind.{common_steps}
use Rattle.std.proofs.lemmas.List.{take_all}
use Rattle.live_turns.specs.Ends.{count_of}
use Rattle.live_turns.specs.Ways.{PassState}
use Rattle.live_turns.proofs.ending.counts_of.Goals as goal

pub loop-pass-preserved : goal.loop-pass-preserved
loop-pass-preserved g c = grind (arith, common_steps)

pub returns : goal.returns
returns g c = c.loop-pass.invariant ∙ ap (λ (ps : List PassState). map count_of ps) (take_all c.loop-pass.pass-index c.args.passes.now c.loop-pass-test.false)
