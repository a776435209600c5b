use Rattle.std.proofs.Common.{arith, map}
use Rattle.std.proofs.lemmas.Grind.{common_steps}
use Rattle.live_scripts.proofs.Positions.{calls_more}
use Rattle.live_scripts.proofs.plans.calls_of.Goals as goal

pub lines-preserved : goal.lines-preserved
lines-preserved c =
    calls_more (map (λ t. t.now) c.args.objects.now) (map (λ t. t.now) c.args.threads.now) c.args.thread.now c.args.lines.now c.lines.line-index c.line-item.result
    c.lines.calls.items c.take_call.new.calls.items c.lines-test.true c.line-item.is c.lines.invariant c.in_ok-take_call.ensures

pub returns : goal.returns
returns c = grind (arith, common_steps)
