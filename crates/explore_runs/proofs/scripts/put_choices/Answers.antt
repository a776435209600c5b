use native.Mathlib.Omega.{arith}
use Rattle.std.proofs.Common.{◌≡◌, ◌∙◌, ℕ, List, ◌++◌, ◌+◌, None, Some, Option, ap, sym, refl, get_or, drop, suc, drop-cons, append_assoc, string_bytes}
use Rattle.explore.specs.declared.programs.Choice.{Choice}
use Rattle.explore.specs.declared.programs.Choice.TheVariants as choice
use Rattle.explore.specs.States.{ProgramState, after, played_from, step_for}
use Rattle.explore.proofs.Trying.{not_taken, taken}
use Rattle.explore_runs.specs.Scripts.{choice_line, choice_lines}
use Rattle.explore_runs.proofs.Choices.{lines_end, state_end}
use Rattle.explore_runs.proofs.scripts.put_choices.Goals as goal

pub returns-then-not-branch-clause-text : goal.returns-then-not-branch-clause-text
returns-then-not-branch-clause-text c =
    let cs : List Choice = c.args.choices.now in
    let i = c.choices.choice-index in
    let x : Choice = get_or cs i (choice.Begin 0) in
    let none : after c.args.program.now c.choices.state x ≡ None =
    not_taken c.in_ok-make.field-0 _ c.make.new.self c.in_ok-make.ensures.made c.if-not-branch.true in
    let front = string_bytes c.choices.text in
    c.in_ok-put_choice.ensures
    ∙ ap (λ (t : List ℕ). front ++ t) (sym (lines_end c.args.names.now c.args.program.now c.choices.state x (drop (suc i) cs) none))
    ∙ ap (λ (ds : List Choice). front ++ choice_lines c.args.names.now c.args.program.now (Some c.choices.state) ds) (sym (drop-cons cs i (choice.Begin 0) c.choices-test.true))
    ∙ sym c.choices.invariant.lines

pub returns-then-not-branch-clause-state : goal.returns-then-not-branch-clause-state
returns-then-not-branch-clause-state c =
    let cs : List Choice = c.args.choices.now in
    let i = c.choices.choice-index in
    let x : Choice = get_or cs i (choice.Begin 0) in
    let none : after c.args.program.now c.choices.state x ≡ None =
    not_taken c.in_ok-make.field-0 _ c.make.new.self c.in_ok-make.ensures.made c.if-not-branch.true in
    sym (c.choices.invariant.state
    ∙ ap (λ (ds : List Choice). played_from c.args.program.now ds (Some c.choices.state)) (drop-cons cs i (choice.Begin 0) c.choices-test.true)
    ∙ state_end c.args.program.now c.choices.state x (drop (suc i) cs) none)

pub choices-init : goal.choices-init
choices-init c = record {
  lines = rw c.in_ok-state.ensures refl;
  state = rw c.in_ok-state.ensures refl;
}

pub choices-preserved : goal.choices-preserved
choices-preserved c =
    let p = c.args.program.now in
    let names = c.args.names.now in
    let cs : List Choice = c.args.choices.now in
    let i = c.choices.choice-index in
    let x : Choice = get_or cs i (choice.Begin 0) in
    let s = c.choices.state in
    let t = c.make.new.self in
    let front = string_bytes c.choices.text in
    let line : List ℕ = choice_line names (step_for p s x) in
    let rest : List ℕ = choice_lines names p (Some t) (drop (suc i) cs) in
    let leads : after p s x ≡ Some t = taken c.in_ok-make.field-0 _ t t c.in_ok-make.ensures.made c.if-not-branch.false refl in
    let cut = drop-cons cs i (choice.Begin 0) c.choices-test.true in
    let one : i + 1 ≡ suc i = omega arith in
    record {
      lines = rw (one, c.in_ok-put_choice.ensures) (c.choices.invariant.lines
          ∙ ap (λ (ds : List Choice). front ++ choice_lines names p (Some s) ds) cut
          ∙ ap (λ (o : Option ProgramState). front ++ (line ++ choice_lines names p o (drop (suc i) cs))) leads
          ∙ sym (append_assoc front line rest));
      state = rw one (c.choices.invariant.state ∙ ap (λ (ds : List Choice). played_from p ds (Some s)) cut
          ∙ ap (λ (o : Option ProgramState). played_from p (drop (suc i) cs) o) leads);
    }
