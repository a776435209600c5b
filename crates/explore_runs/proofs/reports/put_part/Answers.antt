use Rattle.std.proofs.Common.{◌∙◌, List, ap}
use Rattle.std.specs.Prelude.{codes, decimal}
use Rattle.explore.specs.declared.programs.Choice.{Choice}
use Rattle.explore.specs.Found.{witness_at}
use Rattle.explore.specs.States.{played}
use Rattle.explore_runs.specs.Reports.{end_at, witness_part}
use Rattle.explore_runs.proofs.Texts.{part_joined}
use Rattle.explore_runs.proofs.reports.put_part.Goals as goal

pub put_witness-requires : goal.put_witness-requires
put_witness-requires c =
    let sound = c.requires.all.states.sound c.end_in.result c.end_in.ensures.there in
    (sound.0, ap (λ (cs : List Choice). played c.args.named.now.program cs) (c.deref.ensures.value ∙ c.in_ok-choices.ensures) ∙ sound.1)

pub returns : goal.returns
returns c =
    let text = rw c.as_bytes.ensures.value at c.in_ok-extend_from_slice.ensures.items in
    let witness = rw (c.deref.ensures.value, c.in_ok-choices.ensures, c.end_in.ensures.end) at c.in_ok-put_witness.ensures in
    part_joined c.args.report.now.items c.put_head.new.report.items c.extend_from_slice.new.self.items c.put_witness.new.report.items
    (codes "outcome ") (decimal c.args.number) (codes " ends ") (decimal c.args.tally.ends) c.args.text.now
    (witness_part c.args.form c.args.named.now.names c.args.named.now.program
    (witness_at c.args.found.now.witnesses (end_at c.args.found.now c.args.tally.first)))
    c.in_ok-put_head.ensures text witness
