use Rattle.history.specs.Reports.{AreWaitSets}
use Rattle.history.proofs.reports.wait_sets_of.Given as goal

abbrev pub invariant-threads : goal.invariant-threads
invariant-threads l = AreWaitSets l.world l.number l.wait_sets.items
