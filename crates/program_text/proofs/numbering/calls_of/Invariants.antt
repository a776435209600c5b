use Rattle.std.proofs.Common.{◌≡◌, ◌++◌, drop, length}
use Rattle.program_text.specs.Programs.{calls_from, names_behind}
use Rattle.program_text.proofs.numbering.calls_of.Given as goal

abbrev pub invariant-lines : goal.invariant-lines
invariant-lines l = record {
  calls : calls_from l.fn.names l.lines ≡ l.calls.items ++ calls_from l.names (drop l.line-index l.lines);
  names : names_behind l.fn.names l.lines ≡ names_behind l.names (drop l.line-index l.lines);
  count : length l.calls.items ≡ l.line-index;
}
