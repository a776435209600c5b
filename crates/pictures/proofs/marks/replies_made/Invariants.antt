use Rattle.std.proofs.Common.{◌≡◌, ◌++◌, drop}
use Rattle.pictures.specs.Made.{replies_made}
use Rattle.pictures.proofs.marks.replies_made.Given as goal

abbrev pub invariant-columns : goal.invariant-columns
invariant-columns l = record {
  counted : l.number ≡ l.column-index;
  made : l.made.items ++ replies_made l.number (drop l.column-index l.columns) ≡ replies_made 0 l.columns;
}
