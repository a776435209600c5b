use Rattle.history.proofs.Telling.{Tells-next}
use Rattle.history.proofs.histories.tell_steps.Goals as goal

pub steps-preserved : goal.steps-preserved
steps-preserved c =
    Tells-next c.args.world.now c.steps.world c.tell.new.world c.args.steps.now c.steps.request-index _ c.args.history.now.items c.steps.history.items c.tell.new.history.items
    c.steps-test.true c.steps.invariant c.in_ok-tell.ensures
