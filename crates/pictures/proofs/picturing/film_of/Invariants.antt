use Rattle.std.proofs.Common.{take, drop}
use Rattle.jls_check.specs.MachineState.{state}
use Rattle.pictures.proofs.Films.{IsFilming}
use Rattle.pictures.proofs.picturing.film_of.Given as goal

abbrev pub invariant-columns : goal.invariant-columns
invariant-columns l = record {
  filming : IsFilming l.threads l.drawn l.words (state l.initial.machine) l.columns (take l.column-index l.columns) (drop l.column-index l.columns) l.number (state l.machine) l.lanes.items l.strips.items l.arrows.items;
}
