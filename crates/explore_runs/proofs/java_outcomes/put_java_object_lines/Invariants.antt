use Rattle.std.proofs.Common.{◌≡◌, ◌++◌, length, string_bytes}
use Rattle.jls_check.specs.MachineState.{state}
use Rattle.explore_runs.specs.JavaOutcomes.{java_object_lines}
use Rattle.explore_runs.proofs.java_outcomes.put_java_object_lines.Given as goal

abbrev pub invariant-objects : goal.invariant-objects
invariant-objects l =
    string_bytes l.text ≡ string_bytes l.fn.text ++ java_object_lines l.names (state l.machine) (length l.program.starts.items) l.number
