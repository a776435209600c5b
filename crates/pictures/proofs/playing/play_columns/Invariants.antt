use Rattle.std.proofs.Common.{take, drop}
use Rattle.jls_check.specs.MachineState.{state}
use Rattle.pictures.specs.Pictures.{all_moves}
use Rattle.pictures.proofs.Runs.{IsRunning}
use Rattle.pictures.proofs.playing.play_columns.Given as goal

abbrev pub invariant-columns : goal.invariant-columns
invariant-columns l = record {
  running : IsRunning (state l.fn.machine) (all_moves (take l.column-index l.columns)) (all_moves (drop l.column-index l.columns)) (state l.machine);
}
