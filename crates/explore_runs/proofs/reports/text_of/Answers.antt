use Rattle.std.proofs.Common.{◌≡◌, ◌∙◌, List, Option, None, Some, ap, sym}
use Rattle.std.proofs.lemmas.Result.{IfOk-weaker}
use Rattle.explore.specs.declared.programs.Choice.{Choice}
use Rattle.explore.specs.Found.{witness_at}
use Rattle.explore.specs.States.{ProgramState, played}
use Rattle.explore_runs.proofs.reports.text_of.Goals as goal

pub unreachable-requires : goal.unreachable-requires
unreachable-requires c =
    let sound = c.requires.all.states.sound c.args.number c.requires.there in
    let none : ◌≡◌ {A = Option ProgramState} None (Some sound.0) =
    sym c.in-None.is ∙ c.in_ok-state.ensures
    ∙ ap (λ (cs : List Choice). played c.args.named.now.program cs) (c.deref.ensures.value ∙ c.in_ok-choices.ensures) ∙ sound.1 in
    absurd (cc)

pub returns : goal.returns
returns c =
    let leads : played c.args.named.now.program (witness_at c.args.found.now.witnesses c.args.number) ≡ Some c.in-Some.state =
    sym (ap (λ (cs : List Choice). played c.args.named.now.program cs) (c.deref.ensures.value ∙ c.in_ok-choices.ensures))
    ∙ sym c.in_ok-state.ensures ∙ c.in-Some.is in
    IfOk-weaker c.outcome_of.result _ _ (λ text h. (c.in-Some.state, leads, h)) c.outcome_of.ensures
