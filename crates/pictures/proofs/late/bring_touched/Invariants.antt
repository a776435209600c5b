use Rattle.std.proofs.Common.{◌≡◌, take, drop}
use Rattle.std.specs.List.{AllZip}
use Rattle.jls_check.specs.MachineState.{state}
use Rattle.pictures.specs.Late.{IsBrought}
use Rattle.pictures.proofs.late.bring_touched.Given as goal

abbrev pub invariant-lanes : goal.invariant-lanes
invariant-lanes l = record {
  brought : AllZip (IsBrought l.column (state l.machine) l.touched) (take l.late-index l.initial.lanes) (take l.late-index l.lanes);
  left : drop l.late-index l.lanes ≡ drop l.late-index l.initial.lanes;
}
