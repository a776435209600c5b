use Rattle.std.proofs.Common.{◌≡◌, ◌++◌, drop}
use Rattle.pictures.specs.Marks.{refusal_marks}
use Rattle.pictures.proofs.marks.refusals_of.Given as goal

abbrev pub invariant-columns : goal.invariant-columns
invariant-columns l = record {
  counted : l.number ≡ l.column-index;
  marks : l.refusals.items ++ refusal_marks l.number (drop l.column-index l.columns) ≡ refusal_marks 0 l.columns;
}
