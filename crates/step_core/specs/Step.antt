-- What a step answers and leaves: the step relation.
use Rattle.std.specs.Prelude.{ℕ, Bool, true, false, if◌then◌else◌, nat_lt, List, [], ◌∷◌, ◌+◌, length, slice_set}
use Rattle.std.specs.Prelude.{Option, Some, None, Result, Ok, Err}
use Rattle.lock_word.specs.declared.ThreadId.{ThreadId}
use Rattle.thread_index.specs.Indices.{berth_of, free_berth}
use Rattle.fat_monitor.specs.FatState.{FatState, with_thread, with_moment}
use Rattle.fat_monitor.specs.declared.actions.Action.{Action}
use Rattle.fat_monitor.specs.declared.actions.Action.TheVariants as action
use Rattle.fat_monitor.specs.declared.actions.ActFault.{ActFault}
use Rattle.fat_monitor.specs.declared.actions.Done.{Done}
use Rattle.fat_monitor.specs.Acting.{outcome_of}
use Rattle.fat_monitor.specs.declared.actions.Answer.{Answer}
use Rattle.fat_monitor.specs.declared.actions.Answer.TheVariants as answer
use Rattle.fat_monitor.specs.declared.actions.Reply.{Reply}
use Rattle.fat_monitor.specs.declared.actions.Reply.TheVariants as reply
use Rattle.lock_word.specs.declared.ObjectId.{ObjectId}
use Rattle.fast_path.specs.declared.calls.Call.{Call}
use Rattle.fast_path.specs.declared.calls.Call.TheVariants as call
use Rattle.fast_path.specs.declared.calls.Subject.{Subject}
use Rattle.fast_path.specs.declared.calls.Subject.TheVariants as subject
use Rattle.fast_path.specs.Calls.{object_of, subject_of}
use Rattle.step_core.specs.declared.places.Place.{Place}
use Rattle.step_core.specs.declared.places.Place.TheVariants.{Idle, InCall, Ending, AtPost}
use Rattle.step_core.specs.declared.places.Stage.TheVariants.{Begun, Direct}
use Rattle.step_core.specs.declared.machine.Move.{Move}
use Rattle.step_core.specs.declared.machine.Move.TheVariants as move
use Rattle.step_core.specs.declared.steps.Atomic.TheVariants.{Label, Acted}
use Rattle.step_core.specs.declared.steps.Did.{Did}
use Rattle.step_core.specs.declared.steps.Step.{Step}
use Rattle.step_core.specs.declared.steps.Step.TheVariants as step
use Rattle.step_core.specs.declared.steps.Fault.{Fault}
use Rattle.step_core.specs.declared.steps.Fault.TheVariants as fault
use Rattle.step_core.specs.World.{WorldState, place_at, lock_at, is_own}
use Rattle.step_core.specs.Did.{no_move, one_move, move_and_return, return_alone, move_for, grant_of}
use Rattle.step_core.specs.Go.{AfterGo, fats_changed, after_stage, after_look_as, with_go}

-- the answer of a step, and the world after it
pub record AfterStep : Type 0 where
  pub answer : Result Did Fault
  pub after : WorldState

abbrev pub refuse : WorldState → Fault → AfterStep
refuse w f = record { answer = Err f; after = w }

abbrev pub accept : WorldState → Did → AfterStep
accept w d = record { answer = Ok d; after = w }

-- the world with thread t at berth k, in no call
abbrev pub with_live : WorldState → ℕ → ThreadId → WorldState
with_live w k t = record w {
  berths = slice_set w.berths k (Some t);
  places = slice_set w.places k Idle;
  fats = with_thread w.fats t;
}

-- an attach of a thread with this berth, if it has one, where this berth is the lowest free one, if one is
abbrev pub after_attach : Bool → WorldState → ThreadId → Option ℕ → Option ℕ → AfterStep
after_attach room w t (Some k) free = refuse w fault.Known
after_attach room w t None None = refuse w fault.NoIndex
after_attach true w t None (Some k) = accept (with_live w k t) (one_move Label (move.Attach t))
after_attach false w t None (Some k) = refuse w fault.Memory

-- where a call begins: at the load of its object's word, or at its action, or at the first of all words
abbrev pub first_place : Subject → Place
first_place (subject.Monitor c) = InCall (Begun c false)
first_place (subject.Interrupt c) = InCall (Direct c)
first_place subject.End = Ending 0

-- the begin of a call by the thread at berth k, which stands at this place
abbrev pub after_begin_at : WorldState → ℕ → ThreadId → Call → Place → AfterStep
after_begin_at w k t c Idle =
    accept (record w { places = slice_set w.places k (first_place (subject_of c)) }) (one_move Label (move.Call t c))
after_begin_at w k t c p = refuse w fault.InCall

-- a call that names an object asks whether it exists
abbrev pub after_begin_on : WorldState → ℕ → ThreadId → Call → Option ObjectId → AfterStep
after_begin_on w k t c None = after_begin_at w k t c (place_at w k)
after_begin_on w k t c (Some o) =
    if nat_lt o.0 (length w.words) then after_begin_at w k t c (place_at w k) else refuse w fault.NoObject

abbrev pub after_begin : WorldState → ThreadId → Call → Option ℕ → AfterStep
after_begin w t c None = refuse w fault.NoThread
after_begin w t c (Some k) = after_begin_on w k t c (object_of c)

-- What an End leaves that replied this, and left this fat state: a thread that ended gives its index back.
abbrev pub world_ended : WorldState → ℕ → FatState → Reply → WorldState
world_ended w k f reply.Ended =
    record w { berths = slice_set w.berths k None; places = slice_set w.places k Idle; fats = f }
world_ended w k f r = record w { places = slice_set w.places k Idle; fats = f }

-- the action End of thread t at berth k, as it told; it always replies
abbrev pub after_end : WorldState → ℕ → ThreadId → Result Done ActFault → FatState → AfterStep
after_end w k t (Ok d) f = elim d.answer [
  | answer.Reply r ↦
      accept (world_ended w k f r)
      (move_and_return (Acted action.End (answer.Reply r)) (move_for call.End r None t) t r)
  | answer.Parked ↦ accept w (no_move (Acted action.End answer.Parked))
  | answer.Quiet ↦ accept w (no_move (Acted action.End answer.Quiet))
]
after_end w k t (Err e) f = accept w (no_move Label)

-- what a Collect told: the call returns with the reply that it was granted
abbrev pub did_collect : ThreadId → Answer → Did
did_collect t (answer.Reply r) = return_alone (Acted action.Collect (answer.Reply r)) t r
did_collect t a = no_move (Acted action.Collect a)

-- the thread at berth k takes the reply that it was granted, as the action told, or is parked still
abbrev pub after_collect : WorldState → ℕ → ThreadId → Result Done ActFault → FatState → AfterStep
after_collect w k t (Ok d) f =
    accept (with_go w k (fats_changed w f Idle (did_collect t d.answer))) (did_collect t d.answer)
after_collect w k t (Err e) f = refuse w fault.Parked

-- a load by thread t at berth k, which is to end and has loaded the words of the objects below n
abbrev pub after_look : WorldState → ℕ → ThreadId → ℕ → AfterGo
after_look w k t n = after_look_as w t n (is_own (lock_at w n) (k + 1))

-- a Go of the thread at berth k, which stands at this place
abbrev pub after_go_at : Bool → WorldState → ℕ → ThreadId → Place → AfterStep
after_go_at room w k t Idle = refuse w fault.NotCalling
after_go_at room w k t (InCall s) = accept (with_go w k (after_stage room w k t s)) (after_stage room w k t s).did
after_go_at room w k t (Ending n) =
    if nat_lt n (length w.words)
    then accept (with_go w k (after_look w k t n)) (after_look w k t n).did
    else after_end w k t (outcome_of w.fats t action.End).answer (outcome_of w.fats t action.End).after
after_go_at room w k t AtPost =
    after_collect w k t (outcome_of w.fats t action.Collect).answer (outcome_of w.fats t action.Collect).after

abbrev pub after_go : Bool → WorldState → ThreadId → Option ℕ → AfterStep
after_go room w t None = refuse w fault.NoThread
after_go room w t (Some k) = after_go_at room w k t (place_at w k)

-- A wait that ends by itself, and by no other thread: the fat action, the move of the machine, and the fault where
-- the thread may not make them.
pub record WaitEnd : Type 0 where
  pub action : Action
  pub made : ThreadId → Move
  pub fault : Fault

-- its time is over
abbrev pub time_over : WaitEnd
time_over = record { action = action.Expire; made = λ t. move.Expire t; fault = fault.NotDue }

-- a spurious wake-up
abbrev pub wake_up : WaitEnd
wake_up = record { action = action.Spurious; made = λ t. move.Spurious t; fault = fault.NotWaiting }

-- the wait of a thread ends so, or may not: what the action told and left
abbrev pub after_wait_end_as : WaitEnd → WorldState → ThreadId → Result Done ActFault → FatState → AfterStep
after_wait_end_as x w t (Ok d) f =
    accept (record w { fats = f })
    (record {
      atomic = Acted x.action d.answer;
      moves = Some (x.made t) ∷ grant_of f d.granted ∷ None ∷ [];
      reply = None;
    })
after_wait_end_as x w t (Err e) f = refuse w x.fault

abbrev pub after_wait_end : WaitEnd → WorldState → ThreadId → Option ℕ → AfterStep
after_wait_end x w t None = refuse w fault.NoThread
after_wait_end x w t (Some k) =
    after_wait_end_as x w t (outcome_of w.fats t x.action).answer (outcome_of w.fats t x.action).after

-- the moment is told; it never falls
abbrev pub after_tick : WorldState → ℕ → AfterStep
after_tick w now =
    if nat_lt now w.fats.moment then refuse w fault.Backwards
    else accept (record w { fats = with_moment w.fats now }) (one_move Label (move.Time now))

-- One step. It is a function but for memory: room says whether a growth that the step asks for is granted.
abbrev pub step_of : Bool → WorldState → Step → AfterStep
step_of room w (step.Attach t) = after_attach room w t (berth_of w.berths t) (free_berth w.berths)
step_of room w (step.Begin t c) = after_begin w t c (berth_of w.berths t)
step_of room w (step.Go t) = after_go room w t (berth_of w.berths t)
step_of room w (step.Expire t) = after_wait_end time_over w t (berth_of w.berths t)
step_of room w (step.Spurious t) = after_wait_end wake_up w t (berth_of w.berths t)
step_of room w (step.Tick now) = after_tick w now

-- the moves that are there
abbrev pub moves_made : List (Option Move) → List Move
moves_made [] = []
moves_made (None ∷ ms) = moves_made ms
moves_made (Some m ∷ ms) = m ∷ moves_made ms

-- the moves of an answer: a refused step has none
abbrev pub moves_of : Result Did Fault → List Move
moves_of (Ok d) = moves_made d.moves
moves_of (Err f) = []
