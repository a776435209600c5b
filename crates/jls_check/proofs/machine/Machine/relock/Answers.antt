use Rattle.std.proofs.Common.{ap, sym, ◌∙◌, is_some}
use Rattle.jls_check.proofs.Soundness.{lives_held}
use Rattle.jls_check.proofs.machine.Machine.relock.Goals as goal

pub reply-requires-clause-live : goal.reply-requires-clause-live
reply-requires-clause-live c = lives_held c.args.self.now c.hold.new.self c.in-Some-Back.object _ c.args.thread c.hold.ensures (rw (← c.self.view_is) (ap is_some (sym c.get.ensures ∙ c.in-Some-Back.is)))
