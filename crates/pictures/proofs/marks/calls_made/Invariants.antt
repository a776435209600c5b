use Rattle.std.proofs.Common.{◌≡◌, ◌++◌, drop}
use Rattle.pictures.specs.Made.{calls_made}
use Rattle.pictures.proofs.marks.calls_made.Given as goal

abbrev pub invariant-columns : goal.invariant-columns
invariant-columns l = record {
  counted : l.number ≡ l.column-index;
  made : l.made.items ++ calls_made l.number (drop l.column-index l.columns) ≡ calls_made 0 l.columns;
}
