use Rattle.std.proofs.Common.{◌≡◌, take, drop}
use Rattle.jls_check.specs.MachineState.{state}
use Rattle.pictures.specs.Spans.{AllMarkedStrips}
use Rattle.pictures.proofs.spans.mark_strips.Given as goal

abbrev pub invariant-strips : goal.invariant-strips
invariant-strips l = record {
  marked : AllMarkedStrips (state l.machine) l.words l.column 0 (take l.position l.initial.strips) (take l.position l.strips);
  left : drop l.position l.strips ≡ drop l.position l.initial.strips;
}
