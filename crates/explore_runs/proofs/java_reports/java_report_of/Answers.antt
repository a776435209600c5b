use Rattle.std.proofs.Common.{◌∙◌, List, ℕ, ◌++◌, length, ap, sym}
use Rattle.std.proofs.lemmas.List.{length-map}
use Rattle.explore_runs.specs.JavaReports.{java_parts}
use Rattle.explore_runs.specs.Reports.{counts_part}
use Rattle.explore_runs.specs.Tallies.{outcome_tallies, outcome_tally}
use Rattle.explore_runs.proofs.JavaTallying.{below_java_tallied}
use Rattle.explore_runs.proofs.java_reports.java_report_of.Goals as goal

pub put_java_outcomes-requires-clause-first : goal.put_java_outcomes-requires-clause-first
put_java_outcomes-requires-clause-first c =
    below_java_tallied c.args.named.now.names c.args.named.now.program c.args.found.now (outcome_tallies c.in_ok-tallies.tallies.entries) c.in_ok-tallies.ensures

pub returns : goal.returns
returns c =
    let p = c.args.named.now.program in
    let f = c.args.found.now in
    let es = c.in_ok-tallies.tallies.entries in
    let counted = rw (c.new-report.ensures.items, c.states.ensures, c.steps.ensures) at c.in_ok-put_counts.ensures in
    record {
      tallies = outcome_tallies es;
      outcomes = c.in_ok-tallies.ensures;
      says =
          c.in_ok-put_java_outcomes.ensures
          ∙ ap (λ (l : List ℕ). l ++ java_parts p f (outcome_tallies es) (length es)) counted
          ∙ ap (λ (k : ℕ). counts_part (length f.witnesses) f.steps ++ java_parts p f (outcome_tallies es) k) (sym (length-map es outcome_tally));
    }
