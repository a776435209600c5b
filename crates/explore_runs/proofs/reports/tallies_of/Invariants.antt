use Rattle.explore_runs.specs.Reports.{EndsAs}
use Rattle.explore_runs.specs.Tallies.{outcome_tallies}
use Rattle.explore_runs.proofs.Tallying.{AreTalliedTo}
use Rattle.explore_runs.proofs.reports.tallies_of.Given as goal

abbrev pub invariant-ends : goal.invariant-ends
invariant-ends l = AreTalliedTo (EndsAs l.named.names l.named.program l.found) l.at (outcome_tallies l.tallies.entries)
