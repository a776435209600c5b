use Rattle.std.proofs.Common.{◌≡◌, ◌≤◌, ◌-◌}
use Rattle.std.proofs.Common.{option_map}
use Rattle.history_check.specs.Behind.{state_of}
use Rattle.history_check.proofs.Reading.{Reads}
use Rattle.history_check.proofs.replaying.count_moves.Given as goal

abbrev pub invariant-reading : goal.invariant-reading
invariant-reading g l = record {
  whole : g.S.Source.has_failed l.source → g.S.Source.has_failed l.fn.source;
  given : g.S.Source.given l.source ≡ l.given;
  small : l.given ≤ 1073741824;
  counted : l.check.count ≤ l.given;
  reads : Reads (g.S.Source.left l.fn.source) (g.S.Source.left l.source) l.given l.check.count (option_map state_of l.check.machine) l.check.line.items;
}

abbrev pub decreases-reading : goal.decreases-reading
decreases-reading g l = 1073741824 - l.given
