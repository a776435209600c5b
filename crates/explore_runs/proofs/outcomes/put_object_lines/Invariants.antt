use Rattle.std.proofs.Common.{◌≡◌, ◌++◌, length, string_bytes}
use Rattle.history.specs.Reports.{AreWaitSets}
use Rattle.explore_runs.specs.Outcomes.{object_lines}
use Rattle.explore_runs.proofs.outcomes.put_object_lines.Given as goal

abbrev pub invariant-objects : goal.invariant-objects
invariant-objects l = record {
  sets : AreWaitSets l.world (length l.names.threads) l.wait_sets.items;
  lines : string_bytes l.text ≡ string_bytes l.fn.text ++ object_lines l.names l.world l.number;
}
