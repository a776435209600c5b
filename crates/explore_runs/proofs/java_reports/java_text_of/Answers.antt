use Rattle.std.proofs.Common.{◌≡◌, ◌∙◌, List, Some, ap, sym}
use Rattle.std.proofs.lemmas.Result.{IfOk-weaker}
use Rattle.step_core.specs.declared.machine.Move.{Move}
use Rattle.explore_java.specs.JavaFound.{witness_at}
use Rattle.explore_java.specs.JavaStates.{played}
use Rattle.explore_runs.proofs.java_reports.java_text_of.Goals as goal

pub replay-requires : goal.replay-requires
replay-requires c =
    let sound = c.requires.all.states.sound c.args.number c.requires.there in
    (sound.0, ap (λ (ms : List Move). played c.args.named.now.program ms) (c.deref.ensures.value ∙ c.in_ok-moves.ensures) ∙ sound.1)

pub returns : goal.returns
returns c =
    let leads : played c.args.named.now.program (witness_at c.args.found.now.witnesses c.args.number) ≡ Some c.in_ok-state.state =
    ap (λ (ms : List Move). played c.args.named.now.program ms) (sym (c.deref.ensures.value ∙ c.in_ok-moves.ensures)) ∙ c.in_ok-state.ensures.state in
    IfOk-weaker c.java_outcome_of.result _ _ (λ text h. (c.in_ok-state.state, leads, h)) c.java_outcome_of.ensures
