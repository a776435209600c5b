use Rattle.step_core.specs.View.{world_in}
use Rattle.step_core.proofs.Sound.AllSteps.{attach_kept}
use Rattle.step_core.proofs.worlds.World.attach.Goals as goal

pub invariant_of-self : goal.invariant_of-self
invariant_of-self c =
    let e = c.attach.ensures c.self.inside.split c.self.inside.words.items in
    attach_kept (world_in c.self.inside) _ c.args.thread c.attach.result e.0 c.self.invariant e.1

pub returns-clause-exact : goal.returns-clause-exact
returns-clause-exact c =
    let e = c.attach.ensures c.self.inside.split c.self.inside.words.items in
    (e.0, rw (← c.self.view_is) e.1)
