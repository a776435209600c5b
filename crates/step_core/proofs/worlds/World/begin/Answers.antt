use Rattle.step_core.specs.View.{world_in}
use Rattle.step_core.proofs.Sound.AllSteps.{begin_kept}
use Rattle.step_core.proofs.worlds.World.begin.Goals as goal

pub invariant_of-self : goal.invariant_of-self
invariant_of-self c =
    let e = rw c.deref.ensures.value at (c.begin.ensures c.self.inside.split c.self.inside.fats) in
    begin_kept (world_in c.self.inside) _ c.args.thread c.args.call c.begin.result c.self.invariant e
