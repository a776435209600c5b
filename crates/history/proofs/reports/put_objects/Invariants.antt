use Rattle.std.proofs.Common.{◌≡◌, ◌++◌, length, string_bytes}
use Rattle.history.specs.Reports.{AreWaitSets, object_lines}
use Rattle.history.proofs.reports.put_objects.Given as goal

abbrev pub invariant-objects : goal.invariant-objects
invariant-objects l = record {
  sets : AreWaitSets l.world (length l.names.threads) l.wait_sets.items;
  lines : string_bytes l.report ≡ string_bytes l.fn.report ++ object_lines l.names l.world l.number;
}
