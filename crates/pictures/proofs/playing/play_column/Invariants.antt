use Rattle.std.proofs.Common.{take, drop}
use Rattle.jls_check.specs.MachineState.{state}
use Rattle.step_core.specs.Step.{moves_made}
use Rattle.pictures.proofs.Runs.{IsRunning}
use Rattle.pictures.proofs.playing.play_column.Given as goal

abbrev pub invariant-moves : goal.invariant-moves
invariant-moves l = record {
  running : IsRunning (state l.fn.machine) (moves_made (take l.made-index l.moves)) (moves_made (drop l.made-index l.moves)) (state l.machine);
}
