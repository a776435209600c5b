use Rattle.std.proofs.Common.{false}
use Rattle.jls_check.specs.View.{machine_in}
use Rattle.jls_check.proofs.Crossed.{finished_sound_as, finished_as}
use Rattle.jls_check.proofs.machine.Machine.finish.Goals as goal

pub invariant_of-self : goal.invariant_of-self
invariant_of-self c = finished_sound_as (machine_in c.self.inside) c.args.thread c.self.invariant c.args.reply c.cross.new.self c.cross.ensures.crossed

pub invariant_of-self-2 : goal.invariant_of-self-2
invariant_of-self-2 c = finished_sound_as (machine_in c.self.inside) c.args.thread c.self.invariant c.args.reply c.cross.new.self c.cross.ensures.crossed

pub returns-then-not-cross : goal.returns-then-not-cross
returns-then-not-cross c =
    rw (← c.self.view_is) (finished_as (machine_in c.self.inside) c.args.thread c.args.reply c.requires
    false c.cross.new.self c.if-not-cross.ensures.answer c.cross.ensures.crossed)
