use Rattle.std.proofs.Common.{arith}
use Rattle.fat_monitor.proofs.Effects.{count-with_thread}
use Rattle.core_tests.proofs.monitors.attach.Goals as goal

pub returns : goal.returns
returns c =
    let more = count-with_thread c.args.fats.now c.args.thread c.in-Ok.ensures.fresh in
    rw (c.in-Ok.ensures.attached) (omega arith)
