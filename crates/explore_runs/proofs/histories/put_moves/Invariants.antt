use Rattle.std.proofs.Common.{◌≡◌, ◌++◌, drop}
use Rattle.history.specs.Histories.{moves_text}
use Rattle.explore_runs.proofs.histories.put_moves.Given as goal

abbrev pub invariant-moves : goal.invariant-moves
invariant-moves l = l.fn.report.items ++ moves_text l.moves ≡ l.report.items ++ moves_text (drop l.made-index l.moves)
