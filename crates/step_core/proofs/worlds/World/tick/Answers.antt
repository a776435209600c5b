use Rattle.step_core.specs.View.{world_in}
use Rattle.step_core.proofs.Sound.AllSteps.{tick_kept}
use Rattle.step_core.proofs.worlds.World.tick.Goals as goal

pub invariant_of-self : goal.invariant_of-self
invariant_of-self c =
    tick_kept (world_in c.self.inside) _ c.args.now c.tick.result c.self.invariant
    (c.tick.ensures c.self.inside.split c.self.inside.words.items (world_in c.self.inside).berths c.self.inside.places.items)
