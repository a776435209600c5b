use Rattle.history.specs.Reports.{AreEmpty}
use Rattle.history.proofs.reports.empty_sets.Given as goal

abbrev pub invariant-sets : goal.invariant-sets
invariant-sets l = AreEmpty l.counter l.sets.items
