-- Choices that follow one that cannot be made.
use Rattle.std.proofs.Common.{◌≡◌, ◌∙◌, ℕ, List, [], ◌∷◌, ◌++◌, Option, None, Some, ap, refl, append-nil}
use Rattle.history.specs.NameLists.{NameLists}
use Rattle.explore.specs.declared.programs.Program.{Program}
use Rattle.explore.specs.declared.programs.Choice.{Choice}
use Rattle.explore.specs.States.{ProgramState, after, played_from, step_for}
use Rattle.explore.proofs.Trying.{from_nowhere}
use Rattle.explore_runs.specs.Scripts.{choice_line, choice_lines}

no_lines : (names : NameLists) (p : Program) (cs : List Choice) → choice_lines names p None cs ≡ []
no_lines names p [] = refl
no_lines names p (c ∷ cs) = refl

-- the last line is that of the choice which cannot be made
pub lines_end : (names : NameLists) (p : Program) (s : ProgramState) (c : Choice) (cs : List Choice) → after p s c ≡ None
    → choice_lines names p (Some s) (c ∷ cs) ≡ choice_line names (step_for p s c)
lines_end names p s c cs h =
    ap (λ (o : Option ProgramState). choice_line names (step_for p s c) ++ choice_lines names p o cs) h
    ∙ ap (λ (t : List ℕ). choice_line names (step_for p s c) ++ t) (no_lines names p cs) ∙ append-nil _

pub state_end : (p : Program) (s : ProgramState) (c : Choice) (cs : List Choice) → after p s c ≡ None
    → played_from p (c ∷ cs) (Some s) ≡ None
state_end p s c cs h = ap (λ (o : Option ProgramState). played_from p cs o) h ∙ from_nowhere p cs
