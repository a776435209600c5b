use Rattle.history.proofs.Stepping.{Plays-none, Plays-next}
use Rattle.history.proofs.playing.do_steps.Goals as goal

pub steps-init : goal.steps-init
steps-init c = Plays-none c.args.world.now

pub steps-preserved : goal.steps-preserved
steps-preserved c =
    Plays-next c.args.world.now c.steps.world c.do_request.new.world c.args.steps.now c.steps.request-index _ c.steps-test.true c.steps.invariant c.in_ok-do_request.ensures
