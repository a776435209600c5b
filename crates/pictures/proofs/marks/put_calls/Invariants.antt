use Rattle.std.proofs.Common.{◌≡◌, ◌++◌, take}
use Rattle.std.specs.List.{flat_map}
use Rattle.pictures.specs.Made.{call_made}
use Rattle.pictures.proofs.marks.put_calls.Given as goal

abbrev pub invariant-moves : goal.invariant-moves
invariant-moves l = l.made.items ≡ l.fn.made.items ++ flat_map (call_made l.column) (take l.one-index l.moves)
