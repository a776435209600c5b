use Rattle.std.proofs.Common.{◌≡◌, sym, Some, subst}
use Rattle.wait_lines.specs.declared.Role.TheVariants.{Waiting as WaitSet}
use Rattle.fat_monitor.specs.FatState.{FatState, IsSound, first_of}
use Rattle.fat_monitor.proofs.Effects.{first_waiting}
use Rattle.fat_monitor.proofs.monitors.Fats.notify.Goals as goal

pub returns-then-not-is_owner : goal.returns-then-not-is_owner
returns-then-not-is_owner c = rw (← c.if-not-is_owner.ensures) (c.reply_with.ensures _)

pub call_back-requires : goal.call_back-requires
call_back-requires c =
    let first : first_of c.args.self.now c.args.monitor WaitSet ≡ Some c.in-Some.waiter = rw (← c.self.view_is) (sym c.in-Some.ensures.first) in
    let waits = first_waiting c.args.self.now c.args.monitor c.in-Some.waiter (subst (λ (f : FatState). IsSound f) c.self.view_is c.self.invariant.sound) first in
    record { waits = (c.args.monitor, waits.0, waits.1, waits.2) }
