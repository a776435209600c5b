-- Whom a move touches: every thread for which the state behind it may say something else.
use Rattle.std.specs.Prelude.{Bool, true, false, ◌==◌, if◌then◌else◌, Option, Some, None}
use Rattle.lock_word.specs.declared.ThreadId.{ThreadId}
use Rattle.fast_path.specs.declared.calls.Call.{Call}
use Rattle.fast_path.specs.declared.calls.Call.TheVariants as call
use Rattle.step_core.specs.declared.machine.Move.{Move}
use Rattle.step_core.specs.declared.machine.Move.TheVariants as move
use Rattle.step_core.specs.Machine.{State, is_waiting}
use Rattle.pictures.specs.declared.touched.Touched.{Touched}
use Rattle.pictures.specs.declared.touched.Touched.TheVariants.{Nobody, One, Two, Waiters}
use Rattle.pictures.specs.Arrows.{call_in}

-- whom the call of t touches when it acts
abbrev pub touched_by_call : ThreadId → Option Call → Touched
touched_by_call t (Some (call.NotifyAll o)) = Waiters t o
touched_by_call t (Some (call.Interrupt u)) = Two t u
touched_by_call t c = One t

-- whom a move touches that is made in state s
abbrev pub touched_by : State → Move → Touched
touched_by s (move.Attach t) = One t
touched_by s (move.Call t c) = One t
touched_by s (move.Return t r) = One t
touched_by s (move.Lock t) = One t
touched_by s (move.Unlock t) = One t
touched_by s (move.Illegal t) = One t
touched_by s (move.BadArgument t) = One t
touched_by s (move.Early t) = One t
touched_by s (move.Wait t) = One t
touched_by s (move.Notify t None) = One t
touched_by s (move.Notify t (Some u)) = Two t u
touched_by s (move.NotifyAll t) = touched_by_call t (call_in (s.thread t))
touched_by s (move.Interrupt t) = touched_by_call t (call_in (s.thread t))
touched_by s (move.TestClear t) = One t
touched_by s (move.Expire t) = One t
touched_by s (move.Spurious t) = One t
touched_by s (move.Relock t) = One t
touched_by s (move.Ask t) = One t
touched_by s (move.Refuse t cause) = One t
touched_by s (move.Time now) = Nobody
touched_by s (move.End t) = One t

-- whether t is among those that are touched in state s
abbrev pub is_touched : State → Touched → ThreadId → Bool
is_touched s Nobody t = false
is_touched s (One u) t = t.0 == u.0
is_touched s (Two u v) t = if t.0 == u.0 then true else t.0 == v.0
is_touched s (Waiters u o) t = if t.0 == u.0 then true else is_waiting (s.thread t) o
