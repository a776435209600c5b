use Rattle.std.proofs.Common.{arith, map}
use Rattle.std.proofs.lemmas.Grind.{common_steps}
use Rattle.live_scripts.proofs.Running.{threads_more}
use Rattle.live_scripts.proofs.plans.threads_of.Goals as goal

pub lines-preserved : goal.lines-preserved
lines-preserved c =
    threads_more c.args.lines.now c.lines.line-index c.line-item.result (map (λ t. t.now) c.lines.threads.items) (map (λ t. t.now) c.note.new.threads.items) c.lines-test.true c.line-item.is
    c.lines.invariant c.in_ok-note.ensures

pub returns : goal.returns
returns c = grind (arith, common_steps)
