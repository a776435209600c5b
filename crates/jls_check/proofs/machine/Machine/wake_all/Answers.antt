use Rattle.std.proofs.Common.{◌∙◌}
use Rattle.std.proofs.lemmas.Bool.{ne_eqb}
use Rattle.jls_check.specs.Monitors.{waiting_in}
use Rattle.jls_check.specs.View.{machine_in}
use Rattle.jls_check.proofs.AllBack.{emptied_sound_as}
use Rattle.jls_check.proofs.machine.Machine.wake_all.Goals as goal

pub invariant_of-self : goal.invariant_of-self
invariant_of-self c =
    let count = rw (← c.self.view_is) at c.waiting.ensures in
    emptied_sound_as (machine_in c.self.inside) c.args.object c.self.invariant
    (ne_eqb (waiting_in c.self.inside.objects.items c.args.object) 0 (λ e. c.if-waiting-eq0.false (count ∙ e)))
    c.index_mut.result.now c.index_mut.ensures.value c.notify_all.new.self c.notify_all.ensures
