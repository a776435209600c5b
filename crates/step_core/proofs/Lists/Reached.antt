-- Laws of every list of steps.
use Rattle.std.specs.Prelude.{◌≡◌, ◌⊎◌, ℕ, ◌+◌, ◌<◌, Bool, List, [], ◌∷◌, ◌++◌, length, Option, Some, None, IfOk, Result, Ok, Err}
use Rattle.std.proofs.Common.{refl, ap, ◌∙◌, subst}
use Rattle.std.proofs.lemmas.List.{length-map}
use Rattle.std.proofs.lemmas.List.Elements.{filter-append}
use Rattle.lock_word.specs.declared.ThreadId.{ThreadId}
use Rattle.lock_word.specs.declared.Split.{Split}
use Rattle.thread_index.specs.Indices.{IsOneToOne}
use Rattle.fat_monitor.specs.declared.actions.Reply.{Reply}
use Rattle.fast_path.specs.declared.calls.Call.TheVariants as call
use Rattle.step_core.specs.declared.machine.Doing.{Doing}
use Rattle.step_core.specs.declared.machine.Doing.TheVariants as doing
use Rattle.step_core.specs.declared.machine.Move.{Move}
use Rattle.step_core.specs.declared.machine.Move.TheVariants as move
use Rattle.step_core.specs.declared.steps.Request.{Request}
use Rattle.step_core.specs.declared.steps.Request.TheVariants as request
use Rattle.step_core.specs.declared.steps.Step.{Step}
use Rattle.step_core.specs.declared.steps.Step.TheVariants as step
use Rattle.step_core.specs.declared.steps.Did.{Did}
use Rattle.step_core.specs.declared.steps.Fault.{Fault}
use Rattle.step_core.specs.Machine.{State, Run, opening, Is}
use Rattle.step_core.specs.World.{WorldState, opening_world, low_word}
use Rattle.step_core.specs.Shown.{shown}
use Rattle.step_core.specs.Sound.{IsSound}
use Rattle.step_core.specs.Step.{step_of, moves_made, moves_of}
use Rattle.step_core.specs.Requests.{world_then, moves_then, moves_after, world_after}
use Rattle.step_core.specs.Labels.{is_label, labels_of, EndsWith, HasLabels, returned_with, labels_for, labels_then, labels_after}
use Rattle.step_core.specs.Patient.{goes_of, AllLinger}
use Rattle.step_core.specs.Lasting.{IsBack, IsNotified, HasReply, NeverReturns}
use Rattle.step_core.specs.Kept.{Keeps}
use Rattle.step_core.specs.Laws.{AreWithinLimits, reached}
use Rattle.step_core.proofs.Sound.AllSteps.{Run-append}
use Rattle.step_core.proofs.Sound.Opening.{opened_sound, opened_shows}
use Rattle.step_core.proofs.Relaying.Requests.{then_right, relayout_keeps}
use Rattle.step_core.proofs.Clauses.Labels.{step_labels}
use Rattle.step_core.proofs.Clauses.Kept.{step_keeps}
use Rattle.step_core.proofs.Lists.Lingering.{within_four, within_all}
use Rattle.step_core.proofs.Clauses.Lasting.{all_back, all_replied}
use Rattle.fat_monitor.specs.declared.actions.Reply.TheVariants.{WaitOver, Interrupted as Throws}
use Rattle.fat_monitor.specs.declared.actions.Why.TheVariants.{Notified, Interrupted, Elapsed, Spurious}
use Rattle.lock_word.specs.declared.ObjectId.{ObjectId}

-- the labels of one step
ends_labels : (t : ThreadId) (ms : List Move) (r : Option Reply) → EndsWith t ms r → labels_of ms ≡ returned_with t r
ends_labels t ms None h = h
ends_labels t ms (Some r) h = ap labels_of h.1 ∙ filter-append is_label h.0 (move.Return t r ∷ []) ∙ ap (λ xs. xs ++ move.Return t r ∷ []) h.2

one_labels : (s : Step) (r : Result Did Fault) → IfOk r (HasLabels s) → labels_of (moves_of r) ≡ labels_for s r
one_labels s (Err f) h = refl
one_labels (step.Attach t) (Ok d) h = ap labels_of h.0
one_labels (step.Begin t c) (Ok d) h = ap labels_of h.0
one_labels (step.Go t) (Ok d) h = ends_labels t (moves_made d.moves) d.reply h
one_labels (step.Expire t) (Ok d) h = h.0
one_labels (step.Spurious t) (Ok d) h = h.0
one_labels (step.Tick now) (Ok d) h = ap labels_of h.0

then_labels : (w : WorldState) → IsSound w → (r : Request × Bool) → labels_of (moves_then w r) ≡ labels_then w r
then_labels w sound (request.Step s, room) = one_labels s (step_of room w s).answer (step_labels w sound room s)
then_labels w sound (request.Relayout split, room) = refl

-- and of a list
all_labels : (w : WorldState) → IsSound w → (rs : List (Request × Bool)) → labels_of (moves_after w rs) ≡ labels_after w rs
all_labels w sound [] = refl
all_labels w sound (r ∷ rs) =
    filter-append is_label (moves_then w r) (moves_after (world_then w r) rs)
    ∙ ap (λ xs. xs ++ labels_of (moves_after (world_then w r) rs)) (then_labels w sound r)
    ∙ ap (λ xs. labels_then w r ++ xs) (all_labels (world_then w r) (then_right w sound r).0 rs)

-- a list of steps keeps a world sound, its objects and its low bytes; and its moves are a run
all_sound : (w : WorldState) → IsSound w → (rs : List (Request × Bool)) → IsSound (world_after w rs)
all_sound w sound [] = sound
all_sound w sound (r ∷ rs) = all_sound (world_then w r) (then_right w sound r).0 rs

then_keeps : (w : WorldState) → IsSound w → (r : Request × Bool) → Keeps w (world_then w r)
then_keeps w sound (request.Step s, room) = step_keeps w sound room s
then_keeps w sound (request.Relayout split, room) = relayout_keeps w sound room split

all_keeps : (w : WorldState) → IsSound w → (rs : List (Request × Bool)) → Keeps w (world_after w rs)
all_keeps w sound [] = record { objects = refl; low_bytes = λ p. refl }
all_keeps w sound (r ∷ rs) =
    let one = then_keeps w sound r in
    let rest = all_keeps (world_then w r) (then_right w sound r).0 rs in
    record { objects = rest.objects ∙ one.objects; low_bytes = λ p. rest.low_bytes p ∙ one.low_bytes p }

all_run : (w : WorldState) → IsSound w → (rs : List (Request × Bool)) → Run (shown w) (moves_after w rs) (shown (world_after w rs))
all_run w sound [] = refl
all_run w sound (r ∷ rs) =
    let h = then_right w sound r in
    Run-append (shown w) (moves_then w r) (shown (world_then w r)) (moves_after (world_then w r) rs) (shown (world_after (world_then w r) rs)) h.1
    (all_run (world_then w r) h.0 rs)

module _ (lows : List ℕ) (monitors indices : ℕ) (split : Split) (steps : List (Request × Bool)) (limits : AreWithinLimits lows monitors indices split) where
  start : IsSound (opening_world lows monitors indices split)
  start = opened_sound lows monitors indices split limits.bytes limits.objects limits.few limits.bounded

  pub reached_run : Run (opening (length lows)) (moves_after (opening_world lows monitors indices split) steps) (shown (reached lows monitors indices split steps))
  reached_run =
      subst (λ (s : State). Run s (moves_after (opening_world lows monitors indices split) steps) (shown (reached lows monitors indices split steps)))
      (opened_shows lows monitors indices split limits.bytes) (all_run (opening_world lows monitors indices split) start steps)

  pub reached_labels : labels_of (moves_after (opening_world lows monitors indices split) steps) ≡ labels_after (opening_world lows monitors indices split) steps
  reached_labels = all_labels (opening_world lows monitors indices split) start steps

  pub reached_sound : IsSound (reached lows monitors indices split steps)
  reached_sound = all_sound (opening_world lows monitors indices split) start steps

  pub reached_distinct : IsOneToOne (reached lows monitors indices split steps).berths
  reached_distinct = reached_sound.one_to_one

  pub reached_keeps : Keeps (opening_world lows monitors indices split) (reached lows monitors indices split steps)
  reached_keeps = all_keeps (opening_world lows monitors indices split) start steps

  pub reached_four : (t : ThreadId) (flag : Bool) (act : Doing) (more : List (Request × Bool)) → Is (shown (reached lows monitors indices split steps)) t flag act
      → (act ≡ doing.Idle → ⊥) → (act ≡ doing.Wants call.End → ⊥) → AllLinger (reached lows monitors indices split steps) t more → goes_of t more < 4
  reached_four t flag act more is busy not_end all = within_four (reached lows monitors indices split steps) reached_sound t flag act is busy not_end more all

  pub reached_all : (t : ThreadId) (flag : Bool) (more : List (Request × Bool)) → Is (shown (reached lows monitors indices split steps)) t flag (doing.Wants call.End)
      → AllLinger (reached lows monitors indices split steps) t more → goes_of t more < length lows + 1
  reached_all t flag more is all =
      let size : length (reached lows monitors indices split steps).words ≡ length lows = reached_keeps.objects ∙ length-map lows low_word in
      rw (← size) (within_all (reached lows monitors indices split steps) reached_sound t flag is more all)

  pub reached_notified : (u : ThreadId) (o : ObjectId) (n : ℕ) (more : List (Request × Bool)) → IsNotified (shown (reached lows monitors indices split steps)) u o n
      → NeverReturns (reached lows monitors indices split steps) u WaitOver more
      → IsNotified (shown (world_after (reached lows monitors indices split steps) more)) u o n ⊎ HasReply (shown (world_after (reached lows monitors indices split steps) more)) u WaitOver
  reached_notified u o n more note never = all_back (reached lows monitors indices split steps) reached_sound u o n Notified more note never

  pub reached_interrupted : (u : ThreadId) (o : ObjectId) (n : ℕ) (more : List (Request × Bool)) → IsBack (shown (reached lows monitors indices split steps)) u o n Interrupted
      → NeverReturns (reached lows monitors indices split steps) u Throws more
      → IsBack (shown (world_after (reached lows monitors indices split steps) more)) u o n Interrupted ⊎ HasReply (shown (world_after (reached lows monitors indices split steps) more)) u Throws
  reached_interrupted u o n more note never = all_back (reached lows monitors indices split steps) reached_sound u o n Interrupted more note never

  pub reached_elapsed : (u : ThreadId) (o : ObjectId) (n : ℕ) (more : List (Request × Bool)) → IsBack (shown (reached lows monitors indices split steps)) u o n Elapsed
      → NeverReturns (reached lows monitors indices split steps) u WaitOver more
      → IsBack (shown (world_after (reached lows monitors indices split steps) more)) u o n Elapsed ⊎ HasReply (shown (world_after (reached lows monitors indices split steps) more)) u WaitOver
  reached_elapsed u o n more over never = all_back (reached lows monitors indices split steps) reached_sound u o n Elapsed more over never

  pub reached_spurious : (u : ThreadId) (o : ObjectId) (n : ℕ) (more : List (Request × Bool)) → IsBack (shown (reached lows monitors indices split steps)) u o n Spurious
      → NeverReturns (reached lows monitors indices split steps) u WaitOver more
      → IsBack (shown (world_after (reached lows monitors indices split steps) more)) u o n Spurious ⊎ HasReply (shown (world_after (reached lows monitors indices split steps) more)) u WaitOver
  reached_spurious u o n more woken never = all_back (reached lows monitors indices split steps) reached_sound u o n Spurious more woken never

  pub reached_kept : (u : ThreadId) (r : Reply) (more : List (Request × Bool)) → HasReply (shown (reached lows monitors indices split steps)) u r
      → NeverReturns (reached lows monitors indices split steps) u r more → HasReply (shown (world_after (reached lows monitors indices split steps) more)) u r
  reached_kept u r more has never = all_replied (reached lows monitors indices split steps) reached_sound u r more has never

-- what lasts, whatever steps come: a notification, each other reason to be back, and a reply
pub ruleset reached_lasts = (reached_notified, reached_interrupted, reached_elapsed, reached_spurious, reached_kept)
