-- The object that a thread's act names exists.
use Rattle.std.specs.Prelude.{◌≡◌, ◌⊎◌, ℕ, ◌<◌, ◌≤◌, true, false, length, Option, Some, None, IfSome}
use Rattle.std.specs.Option.{option_map}
use Rattle.std.proofs.Common.{refl, ap, sym, ◌∙◌, subst, inl, inr}
use Rattle.std.proofs.lemmas.Bool.{cases_lt}
use Rattle.lock_word.specs.declared.ThreadId.{ThreadId}
use Rattle.lock_word.specs.declared.ObjectId.{ObjectId}
use Rattle.lock_word.specs.declared.Lock.TheVariants.{Free, Fat}
use Rattle.thread_index.specs.Indices.{berth_of}
use Rattle.fat_monitor.specs.declared.monitors.Monitor as fat
use Rattle.fat_monitor.specs.declared.actions.Post.{Post}
use Rattle.fat_monitor.specs.declared.actions.Post.TheVariants.{Out, Entering, Waiting, Back, Granted}
use Rattle.fat_monitor.specs.FatState.{monitor_at, post_at, IsProper}
use Rattle.fast_path.specs.declared.calls.Operation.{Operation}
use Rattle.fast_path.specs.declared.calls.Operation.TheVariants as op
use Rattle.fast_path.specs.declared.calls.InterruptCall.{InterruptCall}
use Rattle.fast_path.specs.declared.calls.InterruptCall.TheVariants as about
use Rattle.fast_path.specs.Calls.{call_on, call_about}
use Rattle.step_core.specs.declared.machine.Doing.{Doing}
use Rattle.step_core.specs.declared.places.Place.{Place}
use Rattle.step_core.specs.declared.places.Place.TheVariants.{Idle, InCall, Ending, AtPost}
use Rattle.step_core.specs.declared.places.Stage.{Stage}
use Rattle.step_core.specs.declared.places.Stage.TheVariants.{Begun, Taking, Storing, Binding, Acting, Won, Bound, Inflated, Direct}
use Rattle.step_core.specs.Machine.{Thread, Exists, ActExists}
use Rattle.step_core.specs.World.{WorldState, place_at, lock_at}
use Rattle.step_core.specs.Shown.{shown, doing_of, doing_in, act_of, thread_of}
use Rattle.step_core.specs.Sound.{IsSound, Fitting, FittingStage, IsPublished}
use Rattle.step_core.proofs.Facts.PlaceFacts.{who_bound}
use Rattle.step_core.proofs.Facts.ShownStates.{proper_at}
use Rattle.step_core.proofs.Facts.OneThread.{lock_past, within}

module _ (w : WorldState) (sound : IsSound w) where
  -- a word past the last object is free
  fat_inside : (p m : ℕ) → lock_at w p ≡ Fat m → p < length w.words
  fat_inside p m e = by_place (cases_lt p (length w.words))
    where
      by_place : (p < length w.words) ⊎ (length w.words ≤ p) → p < length w.words
      by_place (inl h) = h
      by_place (inr h) =
          let never : Free ≡ Fat m = sym (lock_past w p h) ∙ e in absurd (cc)

  -- so the object of a bound monitor exists: its word shows the monitor, or its binder is to store it
  bound_exists : (m : ℕ) → m < length w.fats.monitors → (monitor_at w.fats m).object.0 < length w.words
  bound_exists m h = by_published (sound.published m h)
    where
      by_published : IsPublished w m → (monitor_at w.fats m).object.0 < length w.words
      by_published (inl shows) = fat_inside (monitor_at w.fats m).object.0 m shows
      by_published (inr (j, there, bound)) =
          let b = who_bound (place_at w j) m bound in
          let fit : Fitting w j (InCall (Bound b.0 b.1 m)) = subst (λ (x : Place). Fitting w j x) b.2 (sound.places j there) in
          let object : (monitor_at w.fats m).object ≡ b.0.object = ap (λ (x : fat.Monitor). x.object) fit.2.2 in
          rw object fit.0

  on_exists : (o : ObjectId) (p : Operation) → o.0 < length w.words → Exists (length w.words) (call_on o p)
  on_exists o op.Enter h = h
  on_exists o op.Exit h = h
  on_exists o (op.Wait millis nanos) h = h
  on_exists o op.Notify h = h
  on_exists o op.NotifyAll h = h
  on_exists o op.Holds h = h

  about_exists : (c : InterruptCall) → Exists (length w.words) (call_about c)
  about_exists (about.Interrupt u) = tt
  about_exists about.Interrupted = tt
  about_exists (about.IsInterrupted u) = tt

  stage_exists : (k : ℕ) (s : Stage) → FittingStage w k s → ActExists (length w.words) (doing_in s)
  stage_exists k (Begun c b) fit = on_exists c.object c.operation fit
  stage_exists k (Taking o b) fit = fit
  stage_exists k (Storing c l) fit = on_exists c.object c.operation fit.0
  stage_exists k (Binding c n) fit = on_exists c.object c.operation fit.0
  stage_exists k (Acting c m) fit = on_exists c.object c.operation fit.0
  stage_exists k (Won o) fit = tt
  stage_exists k (Bound c true m) fit = tt
  stage_exists k (Bound c false m) fit = on_exists c.object c.operation fit.0
  stage_exists k (Inflated c m) fit = on_exists c.object c.operation fit.0
  stage_exists k (Direct c) fit = about_exists c

  place_exists : (k : ℕ) (p : Place) → Fitting w k p → ActExists (length w.words) (doing_of p)
  place_exists k Idle fit = tt
  place_exists k (InCall s) fit = stage_exists k s fit
  place_exists k (Ending n) fit = tt
  place_exists k AtPost fit = tt

  act_exists : (k : ℕ) (p : Place) → Fitting w k p → (q : Post) → IsProper w.fats q → ActExists (length w.words) (act_of w.fats q p)
  act_exists k p fit Out proper = place_exists k p fit
  act_exists k p fit (Entering m) proper = bound_exists m proper
  act_exists k p fit (Waiting m n d) proper = bound_exists m proper.0
  act_exists k p fit (Back m n y) proper = bound_exists m proper.0
  act_exists k p fit (Granted r) proper = tt

-- what a reader of acts tells exists
pub doing_exists : (w : WorldState) → IsSound w → (t : ThreadId) (d : Option Doing) → d ≡ option_map (λ (x : Thread). x.act) ((shown w).thread t)
    → IfSome d (ActExists (length w.words))
doing_exists w sound t d e =
    subst (λ (x : Option Doing). IfSome x (ActExists (length w.words))) (sym e) (by_berth (berth_of w.berths t) refl)
  where
    by_berth : (o : Option ℕ) → berth_of w.berths t ≡ o → IfSome (option_map (λ (x : Thread). x.act) (thread_of w t o)) (ActExists (length w.words))
    by_berth None berth = tt
    by_berth (Some k) berth =
        act_exists w sound k (place_at w k) (sound.places k (within w sound k t berth)) (post_at w.fats t) (proper_at w.fats t sound.fats)
