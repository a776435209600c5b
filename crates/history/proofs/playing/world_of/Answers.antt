use Rattle.history.proofs.Stepping.{plays_plan}
use Rattle.history.proofs.playing.world_of.Goals as goal

pub returns : goal.returns
returns c =
    plays_plan c.args.plan.now c.in_ok-world.world c.do_steps.new.world c.deref.result.now c.deref-2.result.now c.deref.ensures.value c.in_ok-world.ensures.world c.deref-2.ensures.value c.in_ok-do_steps.ensures
