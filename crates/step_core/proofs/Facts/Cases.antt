-- The cases of a Begin and of a Go: what holds of each outcome holds of the step.
use Rattle.std.specs.Prelude.{◌≡◌, ℕ, ◌<◌, ◌≤◌, Bool, if◌then◌else◌, nat_lt, length, Option, Some, None, IsSome}
use Rattle.std.specs.Option.{unwrap_or}
use Rattle.std.proofs.Common.{refl, sym, ◌∙◌, subst}
use Rattle.std.proofs.lemmas.Bool.{cond_both, ltb-true, ltb-false}
use Rattle.lock_word.specs.declared.ThreadId.{ThreadId}
use Rattle.lock_word.specs.declared.ObjectId.{ObjectId}
use Rattle.thread_index.specs.Indices.{berth_of}
use Rattle.wait_lines.specs.declared.Role.TheVariants.{Entry, Waiting as WaitSet}
use Rattle.wait_lines.specs.Lines as lines
use Rattle.fat_monitor.specs.declared.actions.Action.TheVariants as action
use Rattle.fat_monitor.specs.declared.actions.Answer.TheVariants as answer
use Rattle.fat_monitor.specs.declared.actions.Reply.{Reply}
use Rattle.fat_monitor.specs.declared.actions.Reply.TheVariants as reply
use Rattle.fat_monitor.specs.declared.actions.Cause.TheVariants.{StillOwner}
use Rattle.fat_monitor.specs.declared.actions.Post.{Post}
use Rattle.fat_monitor.specs.declared.actions.Post.TheVariants.{Out, Entering, Waiting, Back, Granted}
use Rattle.fat_monitor.specs.FatState.{post_of, with_post, without_thread, owns_one, IsAttached}
use Rattle.fat_monitor.specs.Acting.{Outcome as FatOutcome, collect_outcome, replies}
use Rattle.fast_path.specs.declared.calls.Call.{Call}
use Rattle.fast_path.specs.Calls.{object_of}
use Rattle.step_core.specs.declared.places.Place.{Place}
use Rattle.step_core.specs.declared.places.Place.TheVariants.{Idle, InCall, Ending, AtPost}
use Rattle.step_core.specs.declared.places.Stage.{Stage}
use Rattle.step_core.specs.declared.steps.Atomic.TheVariants.{Acted}
use Rattle.step_core.specs.declared.steps.Did.{Did}
use Rattle.step_core.specs.declared.steps.Fault.TheVariants as fault
use Rattle.step_core.specs.Machine.{Exists}
use Rattle.step_core.specs.World.{WorldState, place_at}
use Rattle.step_core.specs.Sound.{IsSound, Fitting, FittingStage}
use Rattle.step_core.specs.Did.{return_alone}
use Rattle.step_core.specs.Go.{fats_changed, after_stage, with_go}
use Rattle.step_core.specs.Step.{AfterStep, refuse, accept, after_begin, after_begin_at, after_begin_on, after_go, after_go_at, after_collect, after_end, after_look}
use Rattle.step_core.proofs.Facts.OneThread.{within}
use Rattle.step_core.proofs.Facts.PlaceFacts.{agrees_out}

-- what an End leaves of a thread that owns a fat monitor, or owns none
abbrev pub end_outcome : WorldState → ThreadId → Bool → FatOutcome
end_outcome w t owns =
    if owns then replies w.fats (reply.Refused StillOwner) else replies (without_thread w.fats t) reply.Ended

abbrev pub ended_as : WorldState → ℕ → ThreadId → Bool → AfterStep
ended_as w k t owns = after_end w k t (end_outcome w t owns).answer (end_outcome w t owns).after

-- the return with a reply that was granted
abbrev pub did_return : ThreadId → Reply → Did
did_return t r = return_alone (Acted action.Collect (answer.Reply r)) t r

abbrev pub collected_as : WorldState → ℕ → ThreadId → Reply → AfterStep
collected_as w k t r = accept (with_go w k (fats_changed w (with_post w.fats t Out) Idle (did_return t r))) (did_return t r)

-- What holds of each fault of a Begin and of a call that begins holds of the Begin.
module _ (w : WorldState) (t : ThreadId) (c : Call) (P : AfterStep → Type 0)
    (not_live : berth_of w.berths t ≡ None → P (refuse w fault.NoThread))
    (missing : (k : ℕ) (o : ObjectId) → berth_of w.berths t ≡ Some k → object_of c ≡ Some o → length w.words ≤ o.0 → P (refuse w fault.NoObject))
    (busy : (k : ℕ) → berth_of w.berths t ≡ Some k → Exists (length w.words) c → (place_at w k ≡ Idle → ⊥) → P (refuse w fault.InCall))
    (begins : (k : ℕ) → berth_of w.berths t ≡ Some k → Exists (length w.words) c → place_at w k ≡ Idle → P (after_begin_at w k t c Idle)) where
  begin_at : (k : ℕ) → berth_of w.berths t ≡ Some k → Exists (length w.words) c → (p : Place) → place_at w k ≡ p → P (after_begin_at w k t c p)
  begin_at k berth there Idle at = begins k berth there at
  begin_at k berth there (InCall s) at = busy k berth there (λ e. let never = sym at ∙ e in cc)
  begin_at k berth there (Ending n) at = busy k berth there (λ e. let never = sym at ∙ e in cc)
  begin_at k berth there AtPost at = busy k berth there (λ e. let never = sym at ∙ e in cc)

  begin_on : (k : ℕ) → berth_of w.berths t ≡ Some k → (o : Option ObjectId) → object_of c ≡ o → P (after_begin_on w k t c o)
  begin_on k berth None names = begin_at k berth (rw names tt) (place_at w k) refl
  begin_on k berth (Some o) names =
      cond_both (nat_lt o.0 (length w.words)) (after_begin_at w k t c (place_at w k)) (refuse w fault.NoObject) P
      (λ h. begin_at k berth (rw names (ltb-true o.0 (length w.words) h)) (place_at w k) refl)
      (λ h. missing k o berth names (ltb-false o.0 (length w.words) h))

  begin_berth : (o : Option ℕ) → berth_of w.berths t ≡ o → P (after_begin w t c o)
  begin_berth None berth = not_live berth
  begin_berth (Some k) berth = begin_on k berth (object_of c) refl

  pub begin_cases : P (after_begin w t c (berth_of w.berths t))
  begin_cases = begin_berth (berth_of w.berths t) refl

-- What holds of each outcome of a Go holds of the Go.
module _ (w : WorldState) (sound : IsSound w) (t : ThreadId) (P : AfterStep → Type 0)
    (not_live : berth_of w.berths t ≡ None → P (refuse w fault.NoThread))
    (idle : (k : ℕ) → berth_of w.berths t ≡ Some k → place_at w k ≡ Idle → P (refuse w fault.NotCalling))
    (stage : (k : ℕ) → berth_of w.berths t ≡ Some k → post_of w.fats t ≡ Some Out → (room : Bool) (s : Stage)
    → place_at w k ≡ InCall s → FittingStage w k s → P (accept (with_go w k (after_stage room w k t s)) (after_stage room w k t s).did))
    (looks : (k : ℕ) → berth_of w.berths t ≡ Some k → post_of w.fats t ≡ Some Out → (n : ℕ)
    → place_at w k ≡ Ending n → n < length w.words → P (accept (with_go w k (after_look w k t n)) (after_look w k t n).did))
    (ends : (k : ℕ) → berth_of w.berths t ≡ Some k → post_of w.fats t ≡ Some Out → (n : ℕ)
    → place_at w k ≡ Ending n → length w.words ≤ n → P (ended_as w k t (owns_one w.fats.monitors t)))
    (parked : (k : ℕ) → berth_of w.berths t ≡ Some k → place_at w k ≡ AtPost → lines.Stands w.fats.standing.lines t → P (refuse w fault.Parked))
    (collects : (k : ℕ) → berth_of w.berths t ≡ Some k → (r : Reply)
    → place_at w k ≡ AtPost → post_of w.fats t ≡ Some (Granted r) → P (collected_as w k t r)) where
  module _ (k : ℕ) (berth : berth_of w.berths t ≡ Some k) where
    fit : (p : Place) → place_at w k ≡ p → Fitting w k p
    fit p at = subst (λ (x : Place). Fitting w k x) at (sound.places k (within w sound k t berth))

    out : (p : Place) → place_at w k ≡ p → (p ≡ AtPost → ⊥) → post_of w.fats t ≡ Some Out
    out p at free = agrees_out p (post_of w.fats t) free (rw at at (sound.posted t k berth))

    go_collect : place_at w k ≡ AtPost → (o : Option Post) → post_of w.fats t ≡ o
        → P (after_collect w k t (collect_outcome w.fats t (unwrap_or o Out)).answer (collect_outcome w.fats t (unwrap_or o Out)).after)
    go_collect at None post =
        let here : IsAttached w.fats t = sound.attached t (rw berth refl) in
        let never : IsSome {T = Post} None = rw post at here in absurd (cc)
    go_collect at (Some Out) post = absurd (rw at at (sound.posted t k berth) post)
    go_collect at (Some (Entering m)) post = parked k berth at (m, Entry, sound.fats.posted t (Entering m) m Entry post refl)
    go_collect at (Some (Waiting m n d)) post = parked k berth at (m, WaitSet, sound.fats.posted t (Waiting m n d) m WaitSet post refl)
    go_collect at (Some (Back m n y)) post = parked k berth at (m, Entry, sound.fats.posted t (Back m n y) m Entry post refl)
    go_collect at (Some (Granted r)) post = collects k berth r at post

    go_at : (room : Bool) (p : Place) → place_at w k ≡ p → P (after_go_at room w k t p)
    go_at room Idle at = idle k berth at
    go_at room (InCall s) at = stage k berth (out (InCall s) at (λ e. cc)) room s at (fit (InCall s) at)
    go_at room (Ending n) at =
        cond_both (nat_lt n (length w.words)) (accept (with_go w k (after_look w k t n)) (after_look w k t n).did) (ended_as w k t (owns_one w.fats.monitors t)) P
        (λ h. looks k berth (out (Ending n) at (λ e. cc)) n at (ltb-true n (length w.words) h))
        (λ h. ends k berth (out (Ending n) at (λ e. cc)) n at (ltb-false n (length w.words) h))
    go_at room AtPost at = go_collect at (post_of w.fats t) refl

  go_berth : (room : Bool) (o : Option ℕ) → berth_of w.berths t ≡ o → P (after_go room w t o)
  go_berth room None berth = not_live berth
  go_berth room (Some k) berth = go_at k berth room (place_at w k) refl

  pub go_cases : (room : Bool) → P (after_go room w t (berth_of w.berths t))
  go_cases room = go_berth room (berth_of w.berths t) refl
