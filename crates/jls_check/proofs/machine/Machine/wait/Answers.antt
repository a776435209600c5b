use Rattle.std.proofs.Common.{refl}
use Rattle.jls_check.specs.Monitors.{unheld}
use Rattle.jls_check.proofs.Soundness.{lives_held}
use Rattle.jls_check.proofs.machine.Machine.wait.Goals as goal

pub put-requires-clause-live : goal.put-requires-clause-live
put-requires-clause-live c =
    lives_held c.args.self.now c.hold.new.self c.in-Some.wish.object unheld c.args.thread c.hold.ensures (c.in-Some.ensures.live refl)
