use Rattle.std.proofs.Common.{◌∙◌, List, ℕ, ◌++◌, length, ap, sym}
use Rattle.std.proofs.lemmas.List.{length-map}
use Rattle.explore_runs.specs.Reports.{counts_part}
use Rattle.explore_runs.specs.Tallies.{outcome_tallies, outcome_tally, tally_parts}
use Rattle.explore_runs.proofs.Tallying.{below_tallied, tallied_says}
use Rattle.explore_runs.proofs.reports.report_of.Goals as goal

pub put_outcomes-requires-clause-first : goal.put_outcomes-requires-clause-first
put_outcomes-requires-clause-first c =
    below_tallied c.args.named.now.names c.args.named.now.program c.args.found.now (outcome_tallies c.in_ok-tallies.tallies.entries) c.in_ok-tallies.ensures

pub returns : goal.returns
returns c =
    let form = c.args.form in
    let names = c.args.named.now.names in
    let p = c.args.named.now.program in
    let f = c.args.found.now in
    let es = c.in_ok-tallies.tallies.entries in
    let h = c.in_ok-tallies.ensures in
    let counted = rw (c.new-report.ensures.items, c.states.ensures, c.steps.ensures) at c.in_ok-put_counts.ensures in
    record {
      texts = h.texts;
      outcomes = h.outcomes;
      says =
          c.in_ok-put_outcomes.ensures
          ∙ ap (λ (l : List ℕ). l ++ tally_parts form names p f (outcome_tallies es) (length es)) counted
          ∙ ap (λ (l : List ℕ). counts_part (length f.witnesses) f.steps ++ l)
          (tallied_says form names p f (outcome_tallies es) (length es) h (sym (length-map es outcome_tally)));
    }
