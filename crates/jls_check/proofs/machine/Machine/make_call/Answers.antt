use Rattle.std.proofs.Common.{sym, false}
use Rattle.jls_check.specs.View.{machine_in}
use Rattle.jls_check.proofs.Crossed.{begun_sound_as, begun_as}
use Rattle.jls_check.proofs.machine.Machine.make_call.Goals as goal

pub invariant_of-self : goal.invariant_of-self
invariant_of-self c =
    begun_sound_as (machine_in c.self.inside) c.args.thread c.self.invariant c.args.call (rw (← c.self.view_is) at (sym c.if-not-names_an_object.ensures))
    c.cross.new.self c.cross.ensures.crossed

pub invariant_of-self-2 : goal.invariant_of-self-2
invariant_of-self-2 c =
    begun_sound_as (machine_in c.self.inside) c.args.thread c.self.invariant c.args.call (rw (← c.self.view_is) at (sym c.if-not-names_an_object.ensures))
    c.cross.new.self c.cross.ensures.crossed

pub returns-then-not-cross : goal.returns-then-not-cross
returns-then-not-cross c =
    rw (← c.self.view_is) (begun_as (machine_in c.self.inside) c.args.thread c.args.call (rw (← c.self.view_is) at (sym c.if-not-names_an_object.ensures))
    false c.cross.new.self c.if-not-cross.ensures.answer c.cross.ensures.crossed)
