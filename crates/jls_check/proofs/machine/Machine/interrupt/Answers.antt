use Rattle.std.proofs.Common.{refl, sym, ◌∙◌}
use Rattle.jls_check.specs.View.{machine_in}
use Rattle.jls_check.proofs.Soundness.{interrupted_ends, lives_put}
use Rattle.jls_check.proofs.machine.Machine.interrupt.Goals as goal

pub put-requires-clause-ends : goal.put-requires-clause-ends
put-requires-clause-ends c = λ e.
    rw (← c.self.view_is) (interrupted_ends (machine_in c.self.inside) c.in-Some-default-Interrupt.target c.in-Some.live c.self.invariant (sym c.get.ensures ∙ c.in-Some.is) (sym c.after_interrupt.ensures ∙ e))

pub reply-requires-clause-live : goal.reply-requires-clause-live
reply-requires-clause-live c =
    lives_put c.args.self.now c.put.new.self c.in-Some-default-Interrupt.target _ _ c.args.thread c.put.ensures (c.in-Some-default-Interrupt.ensures.live refl)
