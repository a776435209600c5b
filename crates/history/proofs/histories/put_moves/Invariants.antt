use Rattle.std.proofs.Common.{◌≡◌, ◌++◌, take}
use Rattle.step_core.specs.Step.{moves_made}
use Rattle.history.specs.Histories.{moves_text}
use Rattle.history.proofs.histories.put_moves.Given as goal

abbrev pub invariant-moves : goal.invariant-moves
invariant-moves l = l.history.items ≡ l.fn.history.items ++ moves_text (moves_made (take l.made-index l.moves))
