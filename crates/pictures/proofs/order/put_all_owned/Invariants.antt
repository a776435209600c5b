use Rattle.std.proofs.Common.{◌≡◌, ◌++◌, take}
use Rattle.jls_check.specs.MachineState.{state}
use Rattle.pictures.specs.Pictures.{all_owned}
use Rattle.pictures.proofs.order.put_all_owned.Given as goal

abbrev pub invariant-objects : goal.invariant-objects
invariant-objects l = l.numbers.items ≡ l.fn.numbers.items ++ all_owned (state l.machine) (take l.number-index l.objects)
