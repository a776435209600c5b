use Rattle.std.proofs.Common.{◌≡◌, take}
use Rattle.drawing.specs.Columns.{columns_of}
use Rattle.drawing.proofs.columns.columns_of.Given as goal

abbrev pub invariant-moves : goal.invariant-moves
invariant-moves l = l.columns.items ≡ columns_of (take l.made-index l.moves)
