-- The labels of a run: what a user of the machine sees of it.
use Rattle.step_core.specs.World.{WorldState}
use Rattle.step_core.specs.Step.{moves_made, step_of}
use Rattle.step_core.specs.Requests.{world_then}
use Rattle.step_core.specs.declared.steps.Fault.{Fault}
use Rattle.std.specs.Prelude.{◌≡◌, Bool, true, false, List, [], ◌∷◌, ◌++◌, filter, Option, Some, None, Result, Ok, Err}
use Rattle.lock_word.specs.declared.ThreadId.{ThreadId}
use Rattle.fat_monitor.specs.declared.actions.Reply.{Reply}
use Rattle.step_core.specs.declared.machine.Move.{Move}
use Rattle.step_core.specs.declared.machine.Move.TheVariants.{Attach, Call, Return, Time}
use Rattle.step_core.specs.declared.steps.Did.{Did}
use Rattle.step_core.specs.declared.steps.Request.{Request}
use Rattle.step_core.specs.declared.steps.Request.TheVariants as request
use Rattle.step_core.specs.declared.steps.Step.{Step}
use Rattle.step_core.specs.declared.steps.Step.TheVariants as step

abbrev pub is_label : Move → Bool
is_label (Attach t) = true
is_label (Call t c) = true
is_label (Return t r) = true
is_label (Time now) = true
is_label m = false

abbrev pub labels_of : List Move → List Move
labels_of ms = filter is_label ms

-- These moves of a Go of t end with the return of its reply, if it has one, and have no other label.
abbrev pub EndsWith : ThreadId → List Move → Option Reply → Type 0
EndsWith t ms None = labels_of ms ≡ []
EndsWith t ms (Some r) = (inner : List Move) × (ms ≡ inner ++ Return t r ∷ []) × (labels_of inner ≡ [])

-- What an accepted step did has just the labels of that step.
abbrev pub HasLabels : Step → Did → Type 0
HasLabels (step.Attach t) d = (moves_made d.moves ≡ Attach t ∷ []) × (d.reply ≡ None)
HasLabels (step.Begin t c) d = (moves_made d.moves ≡ Call t c ∷ []) × (d.reply ≡ None)
HasLabels (step.Go t) d = EndsWith t (moves_made d.moves) d.reply
HasLabels (step.Expire t) d = EndsWith t (moves_made d.moves) None × (d.reply ≡ None)
HasLabels (step.Spurious t) d = EndsWith t (moves_made d.moves) None × (d.reply ≡ None)
HasLabels (step.Tick now) d = (moves_made d.moves ≡ Time now ∷ []) × (d.reply ≡ None)

-- the return with a reply, if there is one
abbrev pub returned_with : ThreadId → Option Reply → List Move
returned_with t None = []
returned_with t (Some r) = Return t r ∷ []

-- the labels of an answered step
abbrev pub labels_for : Step → Result Did Fault → List Move
labels_for s (Err f) = []
labels_for (step.Attach t) (Ok d) = Attach t ∷ []
labels_for (step.Begin t c) (Ok d) = Call t c ∷ []
labels_for (step.Go t) (Ok d) = returned_with t d.reply
labels_for (step.Expire t) (Ok d) = []
labels_for (step.Spurious t) (Ok d) = []
labels_for (step.Tick now) (Ok d) = Time now ∷ []

-- a relayout has none
abbrev pub labels_then : WorldState → (Request × Bool) → List Move
labels_then w (request.Step s, room) = labels_for s (step_of room w s).answer
labels_then w (request.Relayout split, room) = []

-- the labels of a list of steps and relayouts, each with whether its growth is granted
abbrev pub labels_after : WorldState → List (Request × Bool) → List Move
labels_after w [] = []
labels_after w (r ∷ rs) = labels_then w r ++ labels_after (world_then w r) rs
