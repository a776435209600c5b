use Rattle.std.proofs.Common.{◌≡◌, ◌++◌, string_bytes}
use Rattle.explore_runs.specs.Outcomes.{thread_lines}
use Rattle.explore_runs.proofs.outcomes.put_thread_lines.Given as goal

abbrev pub invariant-threads : goal.invariant-threads
invariant-threads l = string_bytes l.text ≡ string_bytes l.fn.text ++ thread_lines l.names l.program l.state l.thread
