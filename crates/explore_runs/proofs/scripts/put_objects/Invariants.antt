use Rattle.std.proofs.Common.{◌≡◌, ◌++◌, drop, string_bytes}
use Rattle.explore_runs.specs.Scripts.{object_lines_from}
use Rattle.explore_runs.proofs.scripts.put_objects.Given as goal

abbrev pub invariant-objects : goal.invariant-objects
invariant-objects l = record {
  here : l.object ≡ l.low-index;
  lines : string_bytes l.fn.text ++ object_lines_from l.names 0 l.lows
      ≡ string_bytes l.text ++ object_lines_from l.names l.object (drop l.low-index l.lows);
}
