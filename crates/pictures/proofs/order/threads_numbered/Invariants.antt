use Rattle.std.proofs.Common.{◌≡◌, take}
use Rattle.pictures.specs.Pictures.{threads_numbered}
use Rattle.pictures.proofs.order.threads_numbered.Given as goal

abbrev pub invariant-numbers : goal.invariant-numbers
invariant-numbers l = l.threads.items ≡ threads_numbered (take l.number-index l.numbers)
