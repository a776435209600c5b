use Rattle.std.proofs.Common.{sym, ◌∙◌}
use Rattle.jls_check.proofs.Woken.{all_left_is}
use Rattle.jls_check.proofs.machine.Machine.empty_wait_set.Goals as goal

pub returns : goal.returns
returns c =
    c.wake_all.ensures.left ∙ sym (all_left_is c.wake_noted.new.self c.args.object c.wake_all.ensures.was) ∙ c.wake_noted.ensures
    ∙ rw (← c.self.view_is) (all_left_is _ c.args.object c.self.invariant)
