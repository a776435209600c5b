use Rattle.std.proofs.Common.{◌≡◌, ◌++◌}
use Rattle.explore_runs.specs.Tallies.{outcome_tallies, tally_parts}
use Rattle.explore_runs.proofs.reports.put_outcomes.Given as goal

abbrev pub invariant-outcomes : goal.invariant-outcomes
invariant-outcomes l =
    l.report.items
    ≡ l.fn.report.items ++ tally_parts l.form l.named.names l.named.program l.found (outcome_tallies l.tallies.entries) l.at
