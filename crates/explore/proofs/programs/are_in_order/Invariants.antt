use Rattle.std.proofs.Common.{◌≡◌, drop}
use Rattle.explore.specs.Starts.{rise_to}
use Rattle.explore.proofs.programs.are_in_order.Given as goal

abbrev pub invariant-starts : goal.invariant-starts
invariant-starts l = rise_to 0 l.starts l.end ≡ rise_to l.last (drop l.start-index l.starts) l.end
