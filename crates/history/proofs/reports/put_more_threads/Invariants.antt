use Rattle.std.proofs.Common.{◌≡◌, ◌++◌, take, string_bytes}
use Rattle.history.specs.Reports.{more_threads_text}
use Rattle.history.proofs.reports.put_more_threads.Given as goal

abbrev pub invariant-threads : goal.invariant-threads
invariant-threads l = string_bytes l.report ≡ string_bytes l.fn.report ++ more_threads_text l.names (take l.thread-index l.threads)
