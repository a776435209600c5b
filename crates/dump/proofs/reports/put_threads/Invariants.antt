use Rattle.std.proofs.Common.{◌≡◌, ◌++◌, take, string_bytes}
use Rattle.std.specs.List.{flat_map}
use Rattle.dump.specs.Reports.{line_in}
use Rattle.dump.proofs.reports.put_threads.Given as goal

abbrev pub invariant-threads : goal.invariant-threads
invariant-threads l = string_bytes l.text ≡ string_bytes l.fn.text ++ flat_map (line_in l.world l.names) (take l.thread-index l.threads)
