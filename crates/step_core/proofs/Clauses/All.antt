-- What the answer of a step tells, and the world that it leaves.
use Rattle.fat_monitor.specs.FatState.{StandBehindOwners}
use Rattle.fat_monitor.proofs.Soundness.{stand_behind}
use Rattle.step_core.proofs.Clauses.Kept.{step_keeps}
use Rattle.step_core.specs.Machine.{Run}
use Rattle.step_core.specs.World.{WorldState}
use Rattle.step_core.specs.Shown.{shown}
use Rattle.step_core.specs.Sound.{IsSound}
use Rattle.step_core.specs.Step.{AfterStep, step_of, moves_of}
use Rattle.step_core.specs.Changes.{Changes}
use Rattle.step_core.specs.Labels.{HasLabels}
use Rattle.step_core.specs.Refused.{IsRefused, IsAcceptable}
use Rattle.step_core.specs.Spared.{Spares}
use Rattle.step_core.specs.Patient.{IsPatient}
use Rattle.step_core.specs.Path.{StepsOnPath}
use Rattle.step_core.specs.Lasting.{Lasts}
use Rattle.step_core.specs.Kept.{Keeps}
use Rattle.step_core.proofs.Clauses.Patient.{step_patient}
use Rattle.step_core.proofs.Clauses.Path.{step_on_path}
use Rattle.step_core.proofs.Clauses.Lasting.{step_lasts}
use Rattle.std.specs.Prelude.{◌≡◌, Bool, IfOk, IfErr, OnOk, OnErr, MatchResult, Result, Ok, Err}
use Rattle.std.proofs.Common.{sym, subst}
use Rattle.step_core.specs.declared.steps.Did.{Did}
use Rattle.step_core.specs.declared.steps.Fault.{Fault}
use Rattle.step_core.specs.declared.steps.Step.{Step}
use Rattle.step_core.proofs.Sound.AllSteps.{step_right}
use Rattle.step_core.proofs.Clauses.Changes.{step_changes}
use Rattle.step_core.proofs.Clauses.Labels.{step_labels}
use Rattle.step_core.proofs.Clauses.Refused.{step_judged}
use Rattle.step_core.proofs.Clauses.Spared.{step_spares}

pub record Tells (w : WorldState) (s : Step) (o : AfterStep) : Type 0 where
  pub sound : IsSound o.after
  pub run : Run (shown w) (moves_of o.answer) (shown o.after)
  pub changes : IfOk o.answer (λ d. Changes w s d.atomic o.after)
  pub labels : IfOk o.answer (HasLabels s)
  pub judged : MatchResult o.answer (λ d. IsAcceptable w s) (λ f. IsRefused w s f)
  pub unchanged : OnErr o.answer (o.after ≡ w)
  pub patient : IfOk o.answer (λ d. IsPatient w s d o.after)
  pub kept : Keeps w o.after
  pub behind : StandBehindOwners o.after.fats
  pub lasting : IfOk o.answer (λ d. Lasts (shown w) s d.reply (shown o.after))
  pub path : IfOk o.answer (λ d. StepsOnPath w s d o.after)
  pub spared : IfOk o.answer (λ d. Spares w d.reply o.after)

step_tells : (w : WorldState) → IsSound w → (room : Bool) (s : Step) → Tells w s (step_of room w s)
step_tells w sound room s =
    let right = step_right w sound room s in
    let judged = step_judged w sound room s in
    record { sound = right.0; run = right.1; changes = step_changes w sound room s; labels = step_labels w sound room s; judged = judged.0; unchanged = judged.1; patient = step_patient w sound room s; kept = step_keeps w sound room s; behind = stand_behind (step_of room w s).after.fats right.0.fats; lasting = step_lasts w sound room s; spared = step_spares w sound room s; path = step_on_path w sound room s }

-- what a step of the code answers and leaves
pub tells : (w w' : WorldState) (s : Step) (r : Result Did Fault) (room : Bool) → IsSound w
    → ◌≡◌ {A = AfterStep} (record { answer = r; after = w' }) (step_of room w s) → Tells w s (record { answer = r; after = w' })
tells w w' s r room sound e = subst (Tells w s) (sym e) (step_tells w sound room s)

-- the two sides of a judgement
pub if_refused : (w : WorldState) (s : Step) (r : Result Did Fault) → MatchResult r (λ d. IsAcceptable w s) (λ f. IsRefused w s f) → IfErr r (IsRefused w s)
if_refused w s (Ok d) h = tt
if_refused w s (Err f) h = h

pub if_accepted : (w : WorldState) (s : Step) (r : Result Did Fault) → MatchResult r (λ d. IsAcceptable w s) (λ f. IsRefused w s f) → OnOk r (IsAcceptable w s)
if_accepted w s (Ok d) h = h
if_accepted w s (Err f) h = tt
