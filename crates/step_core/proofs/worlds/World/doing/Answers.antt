use Rattle.step_core.proofs.Facts.Existing.{doing_exists}
use Rattle.step_core.proofs.worlds.World.doing.Goals as goal

pub returns-clause-exists : goal.returns-clause-exists
returns-clause-exists c = doing_exists c.args.self.now c.act.ensures.was c.args.thread c.act.result c.act.ensures.shown
