use Rattle.std.proofs.Common.{◌≡◌, ◌++◌}
use Rattle.fat_monitor.specs.Numbers.{BeginsWith}
use Rattle.jls_check.specs.Numbers.{threads_numbers}
use Rattle.jls_check.proofs.machine.Machine.push_threads.Given as goal

-- the numbers of the threads before this one were put
abbrev pub invariant-threads : goal.invariant-threads
invariant-threads l =
    (l.numbers.items ≡ l.initial.numbers.items ++ threads_numbers l.self.threads l.thread)
    × BeginsWith l.numbers.items l.initial.numbers.items
