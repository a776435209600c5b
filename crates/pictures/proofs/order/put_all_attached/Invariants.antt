use Rattle.std.proofs.Common.{◌≡◌, ◌++◌, take}
use Rattle.pictures.specs.Pictures.{all_attached}
use Rattle.pictures.proofs.order.put_all_attached.Given as goal

abbrev pub invariant-columns : goal.invariant-columns
invariant-columns l = l.numbers.items ≡ l.fn.numbers.items ++ all_attached (take l.column-index l.columns)
