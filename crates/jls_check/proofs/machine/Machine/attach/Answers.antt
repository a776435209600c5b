use Rattle.std.proofs.Common.{◌∙◌, sym, ap, is_some}
use Rattle.jls_check.specs.View.{machine_in}
use Rattle.jls_check.proofs.Soundness.{attach_sound, nobody_lives}
use Rattle.jls_check.proofs.machine.Machine.attach.Goals as goal

pub invariant_of-self-2 : goal.invariant_of-self-2
invariant_of-self-2 c =
    rw (c.in-Ok.ensures.ok) (attach_sound (machine_in c.self.inside) c.args.thread c.self.invariant
    (nobody_lives _ (ap is_some (sym c.get.ensures) ∙ sym c.is_some.ensures ∙ c.if-is_some.false)))
