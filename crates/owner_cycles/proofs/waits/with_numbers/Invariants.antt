use Rattle.std.proofs.Common.{◌≡◌, take}
use Rattle.owner_cycles.specs.Threads.{threads_numbered}
use Rattle.owner_cycles.proofs.waits.with_numbers.Given as goal

abbrev pub invariant-numbers : goal.invariant-numbers
invariant-numbers l = l.threads.items ≡ threads_numbered (take l.number-index l.numbers)
