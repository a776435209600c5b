use Rattle.std.proofs.Common.{arith, map}
use Rattle.std.proofs.lemmas.Grind.{common_steps}
use Rattle.live_scripts.proofs.Positions.{objects_more}
use Rattle.live_scripts.proofs.plans.objects_of.Goals as goal

pub lines-preserved : goal.lines-preserved
lines-preserved c =
    objects_more c.args.lines.now c.lines.line-index c.line-item.result (map (λ t. t.now) c.lines.objects.items) (map (λ t. t.now) c.note_object.new.objects.items) c.lines-test.true c.line-item.is
    c.lines.invariant c.in_ok-note_object.ensures

pub returns : goal.returns
returns c = grind (arith, common_steps)
