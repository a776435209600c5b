-- The moves that are tried in a state: each that can be made there is among them, and the machine refuses the others.
use Rattle.std.specs.Prelude.{ℕ, zero, suc, if◌then◌else◌, List, [], ◌∷◌, ◌++◌, Option, Some, None, slice_get}
use Rattle.lock_word.specs.declared.ThreadId.{ThreadId}
use Rattle.fat_monitor.specs.declared.actions.Cause.TheVariants as cause
use Rattle.fast_path.specs.declared.calls.Call.{Call}
use Rattle.fast_path.specs.declared.calls.Call.TheVariants as call
use Rattle.step_core.specs.declared.machine.Doing.{Doing}
use Rattle.step_core.specs.declared.machine.Doing.TheVariants.{Idle, Wants, Waits, Back, Has}
use Rattle.step_core.specs.declared.machine.Move.{Move}
use Rattle.step_core.specs.declared.machine.Move.TheVariants as move
use Rattle.jls_check.specs.declared.threads.Live.{Live}
use Rattle.jls_check.specs.LiveThreads.{live_of}
use Rattle.explore.specs.declared.programs.Program.{Program}
use Rattle.explore.specs.States.{thread_of}
use Rattle.explore_java.specs.JavaStates.{JavaProgramState, count_of, next_call}

-- any of the threads below a number is notified
abbrev pub notifies : ThreadId → ℕ → List Move
notifies t zero = []
notifies t (suc n) = notifies t n ++ move.Notify t (Some (thread_of n)) ∷ []

-- what a thread may do that has made this call
abbrev pub call_moves : ℕ → ThreadId → Call → List Move
call_moves n t (call.Enter o) = move.Lock t ∷ move.Refuse t cause.TooDeep ∷ []
call_moves n t (call.Exit o) = move.Unlock t ∷ move.Illegal t ∷ []
call_moves n t (call.Wait o millis nanos) = move.Wait t ∷ move.Illegal t ∷ move.BadArgument t ∷ move.Early t ∷ []
call_moves n t (call.Notify o) = move.Illegal t ∷ move.Notify t None ∷ notifies t n
call_moves n t (call.NotifyAll o) = move.NotifyAll t ∷ move.Illegal t ∷ []
call_moves n t (call.Holds o) = move.Ask t ∷ []
call_moves n t (call.Interrupt u) = move.Interrupt t ∷ move.Refuse t cause.NoThread ∷ []
call_moves n t call.Interrupted = move.TestClear t ∷ []
call_moves n t (call.IsInterrupted u) = move.Ask t ∷ move.Refuse t cause.NoThread ∷ []
call_moves n t call.End = move.End t ∷ move.Refuse t cause.StillOwner ∷ []

-- it makes its next call, if it has one
abbrev pub begin_moves : ThreadId → Option Call → List Move
begin_moves t None = []
begin_moves t (Some c) = move.Call t c ∷ []

abbrev pub doing_moves : Program → JavaProgramState → ThreadId → Doing → List Move
doing_moves p s t Idle = begin_moves t (next_call p s t.0)
doing_moves p s t (Wants c) = call_moves (count_of p) t c
doing_moves p s t (Waits o n d) = move.Expire t ∷ (if p.spurious then move.Spurious t ∷ [] else [])
doing_moves p s t (Back o n w) = move.Relock t ∷ []
doing_moves p s t (Has r) = move.Return t r ∷ []

abbrev pub live_moves : Program → JavaProgramState → ThreadId → Option Live → List Move
live_moves p s t None = []
live_moves p s t (Some x) = doing_moves p s t x.act

abbrev pub thread_moves : Program → JavaProgramState → ℕ → List Move
thread_moves p s k = live_moves p s (thread_of k) (live_of s.machine.threads (thread_of k))

-- those of the threads below a number
abbrev pub moves_below : Program → JavaProgramState → ℕ → List Move
moves_below p s zero = []
moves_below p s (suc k) = moves_below p s k ++ thread_moves p s k

-- the clock tells its next moment, if it has one
abbrev pub clock_moves : Option ℕ → List Move
clock_moves None = []
clock_moves (Some now) = move.Time now ∷ []

-- all that are tried
abbrev pub moves_in : Program → JavaProgramState → List Move
moves_in p s = moves_below p s (count_of p) ++ clock_moves (slice_get p.moments.items s.told)
