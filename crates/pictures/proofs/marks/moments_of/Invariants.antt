use Rattle.std.proofs.Common.{◌≡◌, ◌++◌, drop}
use Rattle.pictures.specs.Marks.{moment_marks}
use Rattle.pictures.proofs.marks.moments_of.Given as goal

abbrev pub invariant-columns : goal.invariant-columns
invariant-columns l = record {
  counted : l.number ≡ l.column-index;
  marks : l.moments.items ++ moment_marks l.number (drop l.column-index l.columns) ≡ moment_marks 0 l.columns;
}
