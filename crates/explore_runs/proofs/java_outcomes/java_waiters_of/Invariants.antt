use Rattle.std.proofs.Common.{◌≡◌}
use Rattle.jls_check.specs.MachineState.{state}
use Rattle.explore_runs.specs.JavaOutcomes.{java_waiters}
use Rattle.explore_runs.proofs.java_outcomes.java_waiters_of.Given as goal

abbrev pub invariant-threads : goal.invariant-threads
invariant-threads l = l.waiters.items ≡ java_waiters (state l.machine) l.object l.number
