-- What a step did: its atomic step, the moves that it hands out, and its reply.
use Rattle.std.specs.Prelude.{Bool, true, false, if◌then◌else◌, [], ◌∷◌, Option, Some, None}
use Rattle.lock_word.specs.declared.ThreadId.{ThreadId}
use Rattle.fat_monitor.specs.declared.actions.Reply.{Reply}
use Rattle.fat_monitor.specs.declared.actions.Reply.TheVariants as reply
use Rattle.fat_monitor.specs.declared.actions.Action.{Action}
use Rattle.fat_monitor.specs.declared.actions.Answer.TheVariants as answer
use Rattle.fat_monitor.specs.declared.actions.Post.{Post}
use Rattle.fat_monitor.specs.declared.actions.Post.TheVariants.{Granted}
use Rattle.fat_monitor.specs.declared.actions.Done.{Done}
use Rattle.fat_monitor.specs.FatState.{FatState, post_at}
use Rattle.fast_path.specs.declared.calls.Call.{Call}
use Rattle.fast_path.specs.declared.calls.Call.TheVariants as call
use Rattle.step_core.specs.declared.machine.Move.{Move}
use Rattle.step_core.specs.declared.machine.Move.TheVariants as move
use Rattle.step_core.specs.declared.steps.Atomic.{Atomic}
use Rattle.step_core.specs.declared.steps.Atomic.TheVariants as atomic
use Rattle.step_core.specs.declared.steps.Did.{Did}

-- whether the call wakes all that wait
abbrev pub wakes_all : Call → Bool
wakes_all (call.NotifyAll o) = true
wakes_all c = false

-- whether its caller tests and clears its own flag
abbrev pub tests_own : Call → Bool
tests_own call.Interrupted = true
tests_own c = false

-- the move by which a call gets this reply; a Notify tells whom it chose
abbrev pub move_for : Call → Reply → Option ThreadId → ThreadId → Move
move_for c reply.Entered u t = move.Lock t
move_for c reply.Exited u t = move.Unlock t
move_for c reply.WaitOver u t = move.Relock t
move_for c reply.Interrupted u t = move.Early t
move_for c reply.Done u t = move.Interrupt t
move_for c reply.Notified u t = if wakes_all c then move.NotifyAll t else move.Notify t u
move_for c reply.Yes u t = if tests_own c then move.TestClear t else move.Ask t
move_for c reply.No u t = if tests_own c then move.TestClear t else move.Ask t
move_for c reply.Ended u t = move.End t
move_for c reply.IllegalMonitorState u t = move.Illegal t
move_for c reply.IllegalArgument u t = move.BadArgument t
move_for c (reply.Refused x) u t = move.Refuse t x

-- no move is made
abbrev pub no_move : Atomic → Did
no_move a = record { atomic = a; moves = None ∷ None ∷ None ∷ []; reply = None }

-- one move is made, and the call goes on
abbrev pub one_move : Atomic → Move → Did
one_move a m = record { atomic = a; moves = Some m ∷ None ∷ None ∷ []; reply = None }

-- the call gets its reply by this move, and returns with it
abbrev pub move_and_return : Atomic → Move → ThreadId → Reply → Did
move_and_return a m t r = record { atomic = a; moves = Some m ∷ Some (move.Return t r) ∷ None ∷ []; reply = Some r }

-- the call returns with the reply that it has
abbrev pub return_alone : Atomic → ThreadId → Reply → Did
return_alone a t r = record { atomic = a; moves = Some (move.Return t r) ∷ None ∷ None ∷ []; reply = Some r }

-- the move by which thread u became the owner: for an enter it locks, and back from a wait it relocks
abbrev pub granting : ThreadId → Post → Move
granting u (Granted reply.Entered) = move.Lock u
granting u p = move.Relock u

abbrev pub grant_of : FatState → Option ThreadId → Option Move
grant_of f None = None
grant_of f (Some u) = Some (granting u (post_at f u))

-- the call gets its reply, after which another thread may have become the owner, and returns with it
abbrev pub move_grant_and_return : Atomic → Move → Option Move → ThreadId → Reply → Did
move_grant_and_return a m None t r = move_and_return a m t r
move_grant_and_return a m (Some g) t r = record {
  atomic = a;
  moves = Some m ∷ Some g ∷ Some (move.Return t r) ∷ [];
  reply = Some r;
}

-- the call is a wait
abbrev pub is_wait : Call → Bool
is_wait (call.Wait o millis nanos) = true
is_wait c = false

-- the call parks: an enter makes no move then, and a wait joins the wait set, after which another thread
-- may have become the owner
abbrev pub parking : Call → Atomic → ThreadId → Option Move → Did
parking c a t g =
    if is_wait c then record { atomic = a; moves = Some (move.Wait t) ∷ g ∷ None ∷ []; reply = None } else no_move a

-- what the fat action of a call told
abbrev pub did_action : Call → Action → FatState → ThreadId → Done → Did
did_action c a f t d = elim d.answer [
  | answer.Reply r ↦
      move_grant_and_return (atomic.Acted a (answer.Reply r)) (move_for c r d.chosen t) (grant_of f d.granted) t r
  | answer.Parked ↦ parking c (atomic.Acted a answer.Parked) t (grant_of f d.granted)
  | answer.Quiet ↦ no_move (atomic.Acted a answer.Quiet)
]
