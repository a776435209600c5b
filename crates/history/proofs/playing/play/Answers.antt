use Rattle.history.proofs.Stepping.{played}
use Rattle.history.proofs.playing.play.Goals as goal

pub returns-clause-played : goal.returns-clause-played
returns-clause-played c =
    played c.in_ok-plan.plan c.args.script.now c.lines.result.now c.in_ok-world.world c.lines.ensures.lines c.in_ok-plan.ensures.world c.in_ok-plan.ensures.objects c.in_ok-plan.ensures.lows c.in_ok-plan.ensures.names
    c.in_ok-plan.ensures.steps c.in_ok-world.ensures
