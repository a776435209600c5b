use Rattle.std.proofs.Common.{arith}
use Rattle.std.proofs.lemmas.Grind.{common_steps}
use Rattle.live_tests.proofs.threads.steps.are_done.Goals as goal

pub loop-step-preserved : goal.loop-step-preserved
loop-step-preserved g c = grind (arith, common_steps)
