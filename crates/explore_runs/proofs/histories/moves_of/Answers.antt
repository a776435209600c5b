use native.Mathlib.Omega.{arith}
use Rattle.std.proofs.Common.{◌≡◌, ◌∙◌, List, ◌++◌, ◌+◌, None, Some, Option, ap, sym, get_or, drop, suc, drop-cons, refl, append_assoc, length}
use Rattle.std.specs.Prelude.{is_some}
use Rattle.step_core.specs.declared.machine.Move.{Move}
use Rattle.step_core.specs.Requests.{moves_after}
use Rattle.step_core.specs.Step.{moves_made}
use Rattle.explore.specs.declared.programs.Choice.{Choice}
use Rattle.explore.specs.declared.programs.Choice.TheVariants as choice
use Rattle.explore.specs.States.{ProgramState, after, did_of, played_from}
use Rattle.explore_runs.specs.Steps.{granted, steps_from}
use Rattle.explore_runs.proofs.Choices.{state_end}
use Rattle.explore_runs.proofs.Labelled.{attaches_moved}
use Rattle.explore_runs.proofs.Leading.{moves_first, moves_next, moves_last}
use Rattle.explore_runs.proofs.histories.moves_of.Goals as goal

pub choices-init : goal.choices-init
choices-init c = record {
  moves = rw (c.in_ok-moves.ensures ∙ sym (attaches_moved c.args.program.now (length c.args.program.now.starts.items) (omega arith)), c.in_ok-state.ensures)
      (moves_first c.args.program.now c.args.choices.now);
  state = rw c.in_ok-state.ensures refl;
}

pub choices-preserved : goal.choices-preserved
choices-preserved c =
    let p = c.args.program.now in
    let cs : List Choice = c.args.choices.now in
    let i = c.choices.choice-index in
    let x : Choice = get_or cs i (choice.Begin 0) in
    let s = c.choices.state in
    let t = c.make_and_tell.new.self in
    let d = c.in-Some.did in
    let leads : after p s x ≡ Some t = rw c.in-Some.is at c.in_ok-did.ensures.made in
    let told : Some d ≡ did_of p s x = rw c.in-Some.is at c.in_ok-did.ensures.told in
    let cut = drop-cons cs i (choice.Begin 0) c.choices-test.true in
    let one : i + 1 ≡ suc i = omega arith in
    record {
      moves = rw (one, c.in_ok-push_made.ensures) (c.choices.invariant.moves
          ∙ ap (λ (ds : List Choice). c.choices.moves.items ++ moves_after s.world (granted (steps_from p (Some s) ds))) cut
          ∙ ap (λ (ms : List Move). c.choices.moves.items ++ ms) (moves_next p s t x (drop (suc i) cs) d leads told)
          ∙ sym (append_assoc c.choices.moves.items (moves_made d.moves) (moves_after t.world (granted (steps_from p (Some t) (drop (suc i) cs))))));
      state = rw one (c.choices.invariant.state ∙ ap (λ (ds : List Choice). played_from p ds (Some s)) cut
          ∙ ap (λ (o : Option ProgramState). played_from p (drop (suc i) cs) o) leads);
    }

pub returns-in-None-clause-made : goal.returns-in-None-clause-made
returns-in-None-clause-made c =
    let p = c.args.program.now in
    let cs : List Choice = c.args.choices.now in
    let i = c.choices.choice-index in
    let x : Choice = get_or cs i (choice.Begin 0) in
    let s = c.choices.state in
    let none : after p s x ≡ None = rw c.in-None.is at c.in_ok-did.ensures.made in
    let stuck = c.choices.invariant.state ∙ ap (λ (ds : List Choice). played_from p ds (Some s)) (drop-cons cs i (choice.Begin 0) c.choices-test.true)
    ∙ state_end p s x (drop (suc i) cs) none in
    sym (ap (λ (o : Option ProgramState). is_some o) stuck)

pub returns-clause-moves : goal.returns-clause-moves
returns-clause-moves c =
    let past = c.choices-test.false in
    sym (c.choices.invariant.moves ∙ moves_last c.args.program.now c.choices.state c.args.choices.now c.choices.choice-index c.choices.moves.items past)
