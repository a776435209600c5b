use Rattle.std.proofs.Common.{refl, sym, ◌∙◌}
use Rattle.jls_check.specs.View.{machine_in}
use Rattle.jls_check.proofs.Soundness.{without_sound}
use Rattle.jls_check.proofs.Judged.{has_ended}
use Rattle.fat_monitor.specs.declared.actions.Reply.TheVariants.{Ended}
use Rattle.jls_check.proofs.machine.Machine.leave.Goals as goal

pub invariant_of-self : goal.invariant_of-self
invariant_of-self c =
    rw (c.remove.ensures) (without_sound (machine_in c.self.inside) c.args.thread c.in-Some.live.flag c.self.invariant
    (sym c.get.ensures ∙ c.in-Some.is ∙ has_ended c.in-Some.live Ended c.if-not-has.ensures refl))
