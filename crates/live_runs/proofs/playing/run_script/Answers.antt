use Rattle.std.proofs.Common.{arith}
use Rattle.live_runs.proofs.Plans.{few_named}
use Rattle.live_runs.proofs.playing.run_script.Goals as goal

pub overflow_cast-passes : goal.overflow_cast-passes
overflow_cast-passes g c =
    let few = few_named c.args.script.now c.in_ok-plan.plan.threads.items c.in_ok-plan.ensures.rules c.in_ok-plan.ensures.plan.threads in
    omega (arith, few, c.len-passes.ensures)
