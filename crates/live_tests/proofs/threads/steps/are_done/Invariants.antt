use Rattle.std.proofs.Common.{◌≡◌}
use Rattle.live_tests.proofs.threads.steps.are_done.Given as goal

abbrev pub invariant-loop-step : goal.invariant-loop-step
invariant-loop-step g l = l.pass.words.opening ≡ l.live
