use Rattle.step_core.specs.View.{world_in}
use Rattle.step_core.proofs.Relaying.Whole.{reserved_sound}
use Rattle.step_core.proofs.worlds.World.reserve.Goals as goal

pub invariant_of-self : goal.invariant_of-self
invariant_of-self c = reserved_sound (world_in c.self.inside) c.self.invariant c.args.binds c.reserve_monitors.result c.reserve_monitors.new.self c.reserve_monitors.ensures.ok c.reserve_monitors.ensures.err c.reserve_monitors.ensures.sound
