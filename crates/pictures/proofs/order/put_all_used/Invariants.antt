use Rattle.std.proofs.Common.{◌≡◌, ◌++◌, take}
use Rattle.jls_check.specs.MachineState.{state}
use Rattle.pictures.specs.Pictures.{all_used}
use Rattle.pictures.proofs.order.put_all_used.Given as goal

abbrev pub invariant-threads : goal.invariant-threads
invariant-threads l = l.numbers.items ≡ l.fn.numbers.items ++ all_used (state l.machine) (take l.number-index l.threads)
