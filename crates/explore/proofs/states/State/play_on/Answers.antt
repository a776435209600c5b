use Rattle.std.proofs.Common.{◌≡◌, ◌∙◌, ℕ, ◌+◌, ◌<◌, List, length, get_or, drop, Option, Some, add-one, ap, refl, sym}
use Rattle.std.proofs.Math.Seq.{drop-cons}
use Rattle.std.proofs.lemmas.List.{drop_all}
use Rattle.explore.specs.declared.programs.Program.{Program}
use Rattle.explore.specs.declared.programs.Choice.{Choice}
use Rattle.explore.specs.declared.programs.Choice.TheVariants as choice
use Rattle.explore.specs.States.{ProgramState, after, played_from}
use Rattle.explore.proofs.Trying.{from_nowhere, taken, not_taken}
use Rattle.explore.proofs.states.State.play_on.Goals as goal

-- what the rest of the choices leads to is led to behind the next one
behind_next : (p : Program) (cs : List Choice) (i : ℕ) (s : ProgramState) (t o : Option ProgramState) → i < length cs
    → after p s (get_or cs i (choice.Begin 0)) ≡ t → played_from p (drop i cs) (Some s) ≡ o → played_from p (drop (i + 1) cs) t ≡ o
behind_next p cs i s t o lt e h = rw (← e, add-one) (rw (drop-cons cs i (choice.Begin 0) lt) at h)

pub playing-init : goal.playing-init
playing-init c = refl

pub playing-preserved : goal.playing-preserved
playing-preserved c =
    let e = taken c.in_ok-make.field-0 _ c.make.new.self c.make.new.self c.in_ok-make.ensures.made c.if-not-branch.false refl in
    behind_next c.args.program.now c.args.choices.now c.playing.choice-index c.playing.self _ _ c.playing-test.true e c.playing.invariant

pub returns-then-not-branch : goal.returns-then-not-branch
returns-then-not-branch c =
    let e = not_taken c.in_ok-make.field-0 _ c.make.new.self c.in_ok-make.ensures.made c.if-not-branch.true in
    sym (behind_next c.args.program.now c.args.choices.now c.playing.choice-index c.playing.self _ _ c.playing-test.true e c.playing.invariant)
    ∙ from_nowhere c.args.program.now (drop (c.playing.choice-index + 1) c.args.choices.now)

pub returns : goal.returns
returns c =
    sym c.playing.invariant ∙ ap (λ (cs : List Choice). played_from c.args.program.now cs (Some c.playing.self))
    (drop_all c.playing.choice-index c.args.choices.now c.playing-test.false)
