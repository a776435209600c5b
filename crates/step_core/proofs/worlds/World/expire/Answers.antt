use Rattle.step_core.specs.View.{world_in}
use Rattle.step_core.proofs.Sound.AllSteps.{expire_kept}
use Rattle.step_core.proofs.worlds.World.expire.Goals as goal

pub invariant_of-self : goal.invariant_of-self
invariant_of-self c =
    expire_kept (world_in c.self.inside) _ c.args.thread c.expire.result c.self.invariant (c.expire.ensures c.self.inside.split c.self.inside.words.items c.self.inside.places.items)
