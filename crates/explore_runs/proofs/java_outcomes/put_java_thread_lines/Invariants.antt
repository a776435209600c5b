use Rattle.std.proofs.Common.{◌≡◌, ◌++◌, string_bytes}
use Rattle.explore_runs.specs.JavaOutcomes.{java_thread_lines}
use Rattle.explore_runs.proofs.java_outcomes.put_java_thread_lines.Given as goal

abbrev pub invariant-threads : goal.invariant-threads
invariant-threads l = string_bytes l.text ≡ string_bytes l.fn.text ++ java_thread_lines l.names l.program l.state l.thread
