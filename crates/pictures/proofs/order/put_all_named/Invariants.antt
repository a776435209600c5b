use Rattle.std.proofs.Common.{◌≡◌, ◌++◌, take}
use Rattle.pictures.specs.Pictures.{all_named}
use Rattle.pictures.proofs.order.put_all_named.Given as goal

abbrev pub invariant-columns : goal.invariant-columns
invariant-columns l = l.numbers.items ≡ l.fn.numbers.items ++ all_named (take l.column-index l.columns)
