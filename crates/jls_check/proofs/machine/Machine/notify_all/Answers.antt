use Rattle.std.proofs.Common.{refl}
use Rattle.jls_check.proofs.AllBack.{lives_all_left}
use Rattle.jls_check.proofs.machine.Machine.notify_all.Goals as goal

pub reply-requires-clause-live : goal.reply-requires-clause-live
reply-requires-clause-live c =
    lives_all_left c.args.self.now c.empty_wait_set.new.self c.in-Some-default-NotifyAll.object c.args.thread c.empty_wait_set.ensures (c.in-Some-default-NotifyAll.ensures.live refl)
