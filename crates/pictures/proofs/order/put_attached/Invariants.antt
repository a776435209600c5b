use Rattle.std.proofs.Common.{◌≡◌, ◌++◌, take}
use Rattle.std.specs.List.{flat_map}
use Rattle.pictures.specs.Pictures.{attached}
use Rattle.pictures.proofs.order.put_attached.Given as goal

abbrev pub invariant-moves : goal.invariant-moves
invariant-moves l = l.numbers.items ≡ l.fn.numbers.items ++ flat_map attached (take l.made-index l.moves)
