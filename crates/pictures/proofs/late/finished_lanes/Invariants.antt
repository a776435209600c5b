use Rattle.std.specs.List.{AllZip}
use Rattle.jls_check.specs.MachineState.{state}
use Rattle.pictures.specs.Late.{IsFinished}
use Rattle.pictures.proofs.late.finished_lanes.Given as goal

abbrev pub invariant-lanes : goal.invariant-lanes
invariant-lanes l = AllZip (IsFinished l.columns (state l.machine)) l.yielded l.finished.items
