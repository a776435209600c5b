use Rattle.std.proofs.Common.{ap, sym, ◌∙◌, is_some}
use Rattle.jls_check.proofs.Soundness.{lives_put}
use Rattle.jls_check.proofs.machine.Machine.notify.Goals as goal

pub put-requires-clause-live : goal.put-requires-clause-live
put-requires-clause-live c = lives_put c.args.self.now c.reply.new.self c.args.thread _ _ c.args.chosen c.reply.ensures (rw (← c.self.view_is) (ap is_some (sym c.get.ensures ∙ c.in-Some-Waits.is)))
