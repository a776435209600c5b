use Rattle.std.proofs.Common.{◌≡◌, ◌∙◌, sym, ap, Option, arith}
use Rattle.std.specs.Map.{lookup}
use Rattle.std.specs.String.{string_eq}
use Rattle.indexmap.specs.IndexMap.{insert_entry}
use Rattle.explore_runs.specs.declared.tallies.Tally.{Tally}
use Rattle.explore_runs.specs.Tallies.{outcome_tallies}
use Rattle.explore_runs.proofs.Counted.{end_counted, found_few, tally_after}
use Rattle.explore_runs.proofs.tallies.count_end.Goals as goal
use Rattle.explore_runs.proofs.tallies.count_end.Goals.{in-Some, in-None}

pub overflow_add-tally : goal.overflow_add-tally
overflow_add-tally c =
    let few = found_few c.args.tallies.now.entries (string_eq c.args.text) c.in-Some.tally.now c.args.at c.requires.few c.in-Some.ensures.value in
    let fits = c.requires.fits in
    omega (arith, few, fits)

pub returns : goal.returns
returns c =
    let es = c.args.tallies.now.entries in
    let noted : tally_after (lookup (string_eq c.args.text) es) c.args.at ≡ c.match-get.tally =
    elim c.match-get.branch [
      | in-Some w ↦ ap (λ (o : Option Tally). tally_after o c.args.at) (sym w.in-Some.ensures.value) ∙ sym w.tally-is
      | in-None w ↦ ap (λ (o : Option Tally). tally_after o c.args.at) (sym w.in-None.ensures.value) ∙ sym w.tally-is
    ] in
    ap outcome_tallies c.in_ok-insert.ensures.entries
    ∙ ap (λ (t : Tally). outcome_tallies (insert_entry string_eq es c.args.text t)) (sym noted)
    ∙ end_counted es c.args.text c.args.at
