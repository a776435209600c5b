-- What the code of a Go has to show.
use Rattle.std.specs.Prelude.{◌≡◌, ℕ, ◌+◌, ◌-◌, ◌<◌, ◌≤◌, Bool, if◌then◌else◌, List, count_by, Option, Some, None, is_some, slice_set, length}
use Rattle.std.specs.Option.{option_map}
use Rattle.std.proofs.Common.{arith, refl, ap, sym, ◌∙◌, subst, length-set}
use Rattle.std.proofs.lemmas.Bool.{lt-ltb, le-ltb}
use Rattle.std.proofs.lemmas.Option.{same_Some}
use Rattle.std.proofs.lemmas.List.Sums.{sum_by-set, count_by-le-length}
use Rattle.lock_word.specs.declared.ThreadId.{ThreadId}
use Rattle.thread_index.specs.Indices.{berth_of, free_berth, index_of, given_back, holder_at}
use Rattle.thread_index.proofs.Berths.{berth_taken_same, taken_given, free_found}
use Rattle.fat_monitor.specs.declared.actions.Action.TheVariants as action
use Rattle.fat_monitor.specs.declared.actions.Post.TheVariants.{Out}
use Rattle.fat_monitor.specs.FatState.{IsAttached, post_of}
use Rattle.fat_monitor.specs.Acting.{outcome_of}
use Rattle.step_core.specs.declared.steps.Step.TheVariants as step
use Rattle.step_core.specs.declared.places.Place.{Place}
use Rattle.step_core.specs.declared.places.Place.TheVariants.{InCall, Ending, AtPost}
use Rattle.step_core.specs.declared.places.Stage.{Stage}
use Rattle.step_core.specs.declared.places.Stage.TheVariants.{Begun, Taking, Storing, Binding, Acting, Won, Bound, Inflated, Direct}
use Rattle.step_core.specs.World.{WorldState, place_at}
use Rattle.step_core.specs.Sound.{IsSound, Fitting, FittingStage}
use Rattle.step_core.specs.Ready.{bare, IsReady}
use Rattle.step_core.specs.Go.{AfterGo, with_go, after_stage}
use Rattle.step_core.specs.Step.{AfterStep, accept, after_look, after_end, after_go, after_go_at}
use Rattle.step_core.proofs.Facts.OneThread.{stands_at, within, out_at}
use Rattle.step_core.proofs.Runs.StageRuns.{storing}
use Rattle.step_core.proofs.Sound.Stages.{store_fits, number_fits}
use Rattle.step_core.proofs.Sound.AllSteps.{step_sound}

-- the berth of a thread whose index is known
pub berth_of_index : (berths : List (Option ThreadId)) (t : ThreadId) (i : ℕ) → Some i ≡ index_of berths t → berth_of berths t ≡ Some (i - 1)
berth_of_index berths t i e = by_berth (berth_of berths t) e
  where
    by_berth : (o : Option ℕ) → Some i ≡ option_map (λ k. k + 1) o → o ≡ Some (i - 1)
    by_berth None e = absurd (cc)
    by_berth (Some k) e = let same : k ≡ i - 1 = (let n : i ≡ k + 1 = same_Some i (k + 1) e in omega arith) in ap (λ (n : ℕ). Some n) same

-- an index that was taken and given back is nothing
pub undone : (berths taken back : List (Option ThreadId)) (t : ThreadId) (k : ℕ) → berth_of berths t ≡ None → free_berth berths ≡ Some k
    → taken ≡ slice_set berths k (Some t) → back ≡ given_back taken (berth_of taken t) → back ≡ berths
undone berths taken back t k none free put gave =
    let berth : berth_of taken t ≡ Some k = rw put (berth_taken_same berths t k none free) in
    gave ∙ rw (berth, put) (taken_given berths t k free)

module _ (w : WorldState) (sound : IsSound w) (k : ℕ) (t : ThreadId) (berth : berth_of w.berths t ≡ Some k) where
  -- a Go may be made from a stage that fits
  ready_at : (s : Stage) → FittingStage w k s → IsReady w.split w.words w.fats s
  ready_at (Begun c b) fit = fit
  ready_at (Taking o b) fit = fit
  ready_at (Storing c l) fit = (fit.0, store_fits w sound k t berth c.object c.operation l (storing w k c l fit))
  ready_at (Binding c n) fit = (rw fit.1 at (stands_at w sound c.object.0)).2
  ready_at (Acting c m) fit = (rw fit.1 at (stands_at w sound c.object.0)).0
  ready_at (Won o) fit = tt
  ready_at (Bound c won m) fit = (fit.0, number_fits w sound k t berth m fit.1)
  ready_at (Inflated c m) fit = (rw fit.1 at (stands_at w sound c.object.0)).0
  ready_at (Direct c) fit = tt

  pub is_ready : (s : Stage) → place_at w k ≡ InCall s → IsReady w.split w.words w.fats s
  is_ready s e = ready_at s (subst (λ (x : Place). Fitting w k x) e (sound.places k (within w sound k t berth)))

  -- a live thread is attached, and out of every fat action where it is not at its post
  pub is_attached : IsAttached w.fats t
  is_attached = sound.attached t (rw berth refl)

  pub is_out : (p : Place) → place_at w k ≡ p → (p ≡ AtPost → ⊥) → post_of w.fats t ≡ Some Out
  is_out p e free = out_at w sound k t berth p e free

  -- what the code of a Go answers and leaves is what a Go does at the thread's place
  pub go_answer : (room : Bool) (p : Place) → place_at w k ≡ p → after_go_at room w k t p ≡ after_go room w t (berth_of w.berths t)
  go_answer room p e = sym (rw (berth, e) refl)

  -- so the world is sound then
  pub go_sound : (room : Bool) (p : Place) → place_at w k ≡ p → (o : AfterStep) → o ≡ after_go_at room w k t p → IsSound o.after
  go_sound room p e o same = subst (λ (x : AfterStep). IsSound x.after) (sym (same ∙ go_answer room p e)) (step_sound w sound room (step.Go t))

-- what the code of a stage, of a load and of an end gives is what a Go does there
pub went_stage : (w : WorldState) (k : ℕ) (t : ThreadId) (room : Bool) (s : Stage) (a : AfterGo) → a ≡ after_stage room (bare w.split w.words w.fats) k t s
    → accept (with_go w k a) a.did ≡ after_go_at room w k t (InCall s)
went_stage w k t room s a e = ap (λ (x : AfterGo). accept (with_go w k x) x.did) e

pub look_at : (room : Bool) (w : WorldState) (k : ℕ) (t : ThreadId) (n : ℕ) → n < length w.words → (a : AfterGo) → a ≡ after_look (bare w.split w.words w.fats) k t n
    → accept (with_go w k a) a.did ≡ after_go_at room w k t (Ending n)
look_at room w k t n more a e = ap (λ (x : AfterGo). accept (with_go w k x) x.did) e ∙ sym (rw (lt-ltb n (length w.words) more) refl)

pub end_at : (room : Bool) (w : WorldState) (k : ℕ) (t : ThreadId) (n : ℕ) → length w.words ≤ n
    → after_end w k t (outcome_of w.fats t action.End).answer (outcome_of w.fats t action.End).after ≡ after_go_at room w k t (Ending n)
end_at room w k t n all = sym (rw (le-ltb n (length w.words) all) refl)

-- where a berth is free, fewer threads are live than there are berths
pub free_counted : (berths : List (Option ThreadId)) (k : ℕ) → free_berth berths ≡ Some k → count_by is_some berths < length berths
free_counted berths k free =
    let there = free_found berths k free in
    let taken : List (Option ThreadId) = slice_set berths k (Some (record { 0 = 0 })) in
    let more : count_by is_some taken + (if is_some (holder_at berths k) then 1 else 0) ≡ count_by is_some berths + 1 =
    sum_by-set (λ (x : Option ThreadId). if is_some x then 1 else 0) berths k (Some (record { 0 = 0 })) None there.0 in
    let one : count_by is_some taken + 0 ≡ count_by is_some berths + 1 = rw there.1 at more in
    let most : count_by is_some taken ≤ length taken = count_by-le-length is_some taken in
    let size : length taken ≡ length berths = length-set berths k (Some (record { 0 = 0 })) in omega arith
