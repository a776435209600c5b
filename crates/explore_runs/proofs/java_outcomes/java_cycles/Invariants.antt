use Rattle.std.proofs.Common.{◌≡◌, map}
use Rattle.step_core.specs.Cycles.{next}
use Rattle.jls_check.specs.MachineState.{state}
use Rattle.explore_java.specs.JavaRuns.{threads_below}
use Rattle.explore_runs.proofs.java_outcomes.java_cycles.Given as goal

abbrev pub invariant-threads : goal.invariant-threads
invariant-threads l = record {
  threads : l.threads.items ≡ threads_below l.number;
  nexts : l.nexts.items ≡ map (next (state l.machine)) (threads_below l.number);
}
