use Rattle.std.proofs.Common.{◌≡◌, ◌++◌, take}
use Rattle.std.specs.List.{flat_map}
use Rattle.pictures.specs.Marks.{moment_mark}
use Rattle.pictures.proofs.marks.put_moments.Given as goal

abbrev pub invariant-moves : goal.invariant-moves
invariant-moves l = l.moments.items ≡ l.fn.moments.items ++ flat_map (moment_mark l.column) (take l.made-index l.moves)
