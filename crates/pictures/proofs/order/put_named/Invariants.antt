use Rattle.std.proofs.Common.{◌≡◌, ◌++◌, take}
use Rattle.std.specs.List.{flat_map}
use Rattle.pictures.specs.Pictures.{named}
use Rattle.pictures.proofs.order.put_named.Given as goal

abbrev pub invariant-moves : goal.invariant-moves
invariant-moves l = l.numbers.items ≡ l.fn.numbers.items ++ flat_map named (take l.made-index l.moves)
