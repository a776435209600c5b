use Rattle.std.proofs.Common.{length}
use Rattle.explore_runs.specs.Tallies.{outcome_tallies, outcome_tally}
use Rattle.explore_runs.proofs.Counted.{first_there, tally_there}
use Rattle.explore_runs.proofs.JavaTallying.{next_java_part}
use Rattle.explore_runs.proofs.java_reports.put_java_outcomes.Goals as goal

pub put_java_part-requires-clause-there : goal.put_java_part-requires-clause-there
put_java_part-requires-clause-there c =
    first_there c.args.tallies.now.entries c.outcomes.at (length c.args.found.now.ends) (c.in-Some.text.now, c.in-Some.tally.now)
    c.requires.first c.in-Some.ensures.entry

pub outcomes-preserved : goal.outcomes-preserved
outcomes-preserved c =
    let es = c.args.tallies.now.entries in
    let part = rw c.as_str.ensures.value at c.in_ok-put_java_part-in-Some.ensures in
    next_java_part c.args.program.now c.args.found.now (outcome_tallies es) c.outcomes.at (outcome_tally (c.in-Some.text.now, c.in-Some.tally.now))
    c.args.report.now.items c.outcomes.report.items c.put_java_part.new.report.items
    (tally_there es c.outcomes.at (c.in-Some.text.now, c.in-Some.tally.now) c.in-Some.ensures.entry)
    c.outcomes.invariant part
