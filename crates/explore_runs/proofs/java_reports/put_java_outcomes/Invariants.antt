use Rattle.std.proofs.Common.{◌≡◌, ◌++◌}
use Rattle.explore_runs.specs.JavaReports.{java_parts}
use Rattle.explore_runs.specs.Tallies.{outcome_tallies}
use Rattle.explore_runs.proofs.java_reports.put_java_outcomes.Given as goal

abbrev pub invariant-outcomes : goal.invariant-outcomes
invariant-outcomes l = l.report.items ≡ l.fn.report.items ++ java_parts l.program l.found (outcome_tallies l.tallies.entries) l.at
