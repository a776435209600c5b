use Rattle.std.proofs.Common.{arith, refl}
use Rattle.std.proofs.lemmas.Grind.{common_steps}
use Rattle.jls_check.proofs.Soundness.{lives_held}
use Rattle.jls_check.proofs.machine.Machine.unlock.Goals as goal

pub reply-requires-clause-live : goal.reply-requires-clause-live
reply-requires-clause-live c =
    lives_held c.args.self.now c.hold.new.self c.in-Some-default-Exit.object _ c.args.thread c.hold.ensures (c.in-Some-default-Exit.ensures.live refl)

pub hold-requires : goal.hold-requires
hold-requires c = grind (arith, common_steps)
