use Rattle.std.proofs.Common.{◌≡◌, ◌++◌, string_bytes}
use Rattle.explore_runs.specs.Scripts.{attach_lines}
use Rattle.explore_runs.proofs.scripts.put_attaches.Given as goal

abbrev pub invariant-threads : goal.invariant-threads
invariant-threads l = string_bytes l.text ≡ string_bytes l.fn.text ++ attach_lines l.names l.thread
