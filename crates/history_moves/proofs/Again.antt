-- What is written as a move, or as a first line, is read as it.
use Rattle.std.proofs.Common.{◌≡◌, ℕ, ◌^◌, ◌<◌, Some, None, pos, negsuc, refl, arith}
use Rattle.std.proofs.lemmas.Bool.{lt-ltb}
use Rattle.fat_monitor.specs.declared.actions.Cause.TheVariants as cause
use Rattle.fat_monitor.specs.declared.actions.Reply.TheVariants as reply
use Rattle.fast_path.specs.declared.calls.Call.TheVariants as call
use Rattle.step_core.specs.declared.machine.Move.{Move}
use Rattle.step_core.specs.declared.machine.Move.TheVariants as move
use Rattle.history_moves.specs.Moves.{data_of, first_data, Fits}
use Rattle.history_moves.specs.Reading.{move_from, first_from}

longer : (n : ℕ) → n < 2 ^ 31 → n < 2 ^ 63
longer n h = omega (arith, h)

pub move_again : (m : Move) → Fits m → move_from (data_of m) ≡ Some m
unfolding move_from
move_again (move.Attach t) fits = rw (lt-ltb t.0 (2 ^ 32) fits) refl
move_again (move.Lock t) fits = rw (lt-ltb t.0 (2 ^ 32) fits) refl
move_again (move.Unlock t) fits = rw (lt-ltb t.0 (2 ^ 32) fits) refl
move_again (move.Illegal t) fits = rw (lt-ltb t.0 (2 ^ 32) fits) refl
move_again (move.BadArgument t) fits = rw (lt-ltb t.0 (2 ^ 32) fits) refl
move_again (move.Early t) fits = rw (lt-ltb t.0 (2 ^ 32) fits) refl
move_again (move.Wait t) fits = rw (lt-ltb t.0 (2 ^ 32) fits) refl
move_again (move.NotifyAll t) fits = rw (lt-ltb t.0 (2 ^ 32) fits) refl
move_again (move.Interrupt t) fits = rw (lt-ltb t.0 (2 ^ 32) fits) refl
move_again (move.TestClear t) fits = rw (lt-ltb t.0 (2 ^ 32) fits) refl
move_again (move.Ask t) fits = rw (lt-ltb t.0 (2 ^ 32) fits) refl
move_again (move.Expire t) fits = rw (lt-ltb t.0 (2 ^ 32) fits) refl
move_again (move.Spurious t) fits = rw (lt-ltb t.0 (2 ^ 32) fits) refl
move_again (move.Relock t) fits = rw (lt-ltb t.0 (2 ^ 32) fits) refl
move_again (move.End t) fits = rw (lt-ltb t.0 (2 ^ 32) fits) refl
move_again (move.Call t (call.Enter o)) fits = rw (lt-ltb t.0 (2 ^ 32) fits.0, lt-ltb o.0 (2 ^ 32) fits.1) refl
move_again (move.Call t (call.Exit o)) fits = rw (lt-ltb t.0 (2 ^ 32) fits.0, lt-ltb o.0 (2 ^ 32) fits.1) refl
move_again (move.Call t (call.Notify o)) fits = rw (lt-ltb t.0 (2 ^ 32) fits.0, lt-ltb o.0 (2 ^ 32) fits.1) refl
move_again (move.Call t (call.NotifyAll o)) fits = rw (lt-ltb t.0 (2 ^ 32) fits.0, lt-ltb o.0 (2 ^ 32) fits.1) refl
move_again (move.Call t (call.Holds o)) fits = rw (lt-ltb t.0 (2 ^ 32) fits.0, lt-ltb o.0 (2 ^ 32) fits.1) refl
move_again (move.Call t (call.Interrupt u)) fits = rw (lt-ltb t.0 (2 ^ 32) fits.0, lt-ltb u.0 (2 ^ 32) fits.1) refl
move_again (move.Call t (call.IsInterrupted u)) fits = rw (lt-ltb t.0 (2 ^ 32) fits.0, lt-ltb u.0 (2 ^ 32) fits.1) refl
move_again (move.Call t call.Interrupted) fits = rw (lt-ltb t.0 (2 ^ 32) fits.0) refl
move_again (move.Call t call.End) fits = rw (lt-ltb t.0 (2 ^ 32) fits.0) refl
move_again (move.Call t (call.Wait o (pos m) (pos n))) fits = rw (lt-ltb t.0 (2 ^ 32) fits.0, lt-ltb o.0 (2 ^ 32) fits.1.0, lt-ltb m (2 ^ 63) fits.1.1, lt-ltb n (2 ^ 63) (longer n fits.1.2), lt-ltb n (2 ^ 31) fits.1.2) refl
move_again (move.Call t (call.Wait o (pos m) (negsuc n))) fits = rw (lt-ltb t.0 (2 ^ 32) fits.0, lt-ltb o.0 (2 ^ 32) fits.1.0, lt-ltb m (2 ^ 63) fits.1.1, lt-ltb n (2 ^ 31) fits.1.2) refl
move_again (move.Call t (call.Wait o (negsuc m) (pos n))) fits = rw (lt-ltb t.0 (2 ^ 32) fits.0, lt-ltb o.0 (2 ^ 32) fits.1.0, lt-ltb n (2 ^ 63) (longer n fits.1.2), lt-ltb n (2 ^ 31) fits.1.2) refl
move_again (move.Call t (call.Wait o (negsuc m) (negsuc n))) fits = rw (lt-ltb t.0 (2 ^ 32) fits.0, lt-ltb o.0 (2 ^ 32) fits.1.0, lt-ltb n (2 ^ 31) fits.1.2) refl
move_again (move.Return t reply.Entered) fits = rw (lt-ltb t.0 (2 ^ 32) fits) refl
move_again (move.Return t reply.Exited) fits = rw (lt-ltb t.0 (2 ^ 32) fits) refl
move_again (move.Return t reply.WaitOver) fits = rw (lt-ltb t.0 (2 ^ 32) fits) refl
move_again (move.Return t reply.Interrupted) fits = rw (lt-ltb t.0 (2 ^ 32) fits) refl
move_again (move.Return t reply.Notified) fits = rw (lt-ltb t.0 (2 ^ 32) fits) refl
move_again (move.Return t reply.Yes) fits = rw (lt-ltb t.0 (2 ^ 32) fits) refl
move_again (move.Return t reply.No) fits = rw (lt-ltb t.0 (2 ^ 32) fits) refl
move_again (move.Return t reply.Done) fits = rw (lt-ltb t.0 (2 ^ 32) fits) refl
move_again (move.Return t reply.Ended) fits = rw (lt-ltb t.0 (2 ^ 32) fits) refl
move_again (move.Return t reply.IllegalMonitorState) fits = rw (lt-ltb t.0 (2 ^ 32) fits) refl
move_again (move.Return t reply.IllegalArgument) fits = rw (lt-ltb t.0 (2 ^ 32) fits) refl
move_again (move.Return t (reply.Refused cause.NoMonitor)) fits = rw (lt-ltb t.0 (2 ^ 32) fits) refl
move_again (move.Return t (reply.Refused cause.Memory)) fits = rw (lt-ltb t.0 (2 ^ 32) fits) refl
move_again (move.Return t (reply.Refused cause.TooDeep)) fits = rw (lt-ltb t.0 (2 ^ 32) fits) refl
move_again (move.Return t (reply.Refused cause.StillOwner)) fits = rw (lt-ltb t.0 (2 ^ 32) fits) refl
move_again (move.Return t (reply.Refused cause.NoThread)) fits = rw (lt-ltb t.0 (2 ^ 32) fits) refl
move_again (move.Notify t None) fits = rw (lt-ltb t.0 (2 ^ 32) fits.0) refl
move_again (move.Notify t (Some u)) fits = rw (lt-ltb t.0 (2 ^ 32) fits.0, lt-ltb u.0 (2 ^ 32) fits.1) refl
move_again (move.Refuse t cause.NoMonitor) fits = rw (lt-ltb t.0 (2 ^ 32) fits) refl
move_again (move.Refuse t cause.Memory) fits = rw (lt-ltb t.0 (2 ^ 32) fits) refl
move_again (move.Refuse t cause.TooDeep) fits = rw (lt-ltb t.0 (2 ^ 32) fits) refl
move_again (move.Refuse t cause.StillOwner) fits = rw (lt-ltb t.0 (2 ^ 32) fits) refl
move_again (move.Refuse t cause.NoThread) fits = rw (lt-ltb t.0 (2 ^ 32) fits) refl
move_again (move.Time now) fits = refl

-- ---- the first line

pub first_again : (n : ℕ) → n < 65536 → first_from (first_data n) ≡ Some n
unfolding first_from
first_again n fits = rw (lt-ltb n 65536 fits) refl
