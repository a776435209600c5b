-- What each move leaves of what a checker knows; None where the move is not lawful.
use Rattle.std.specs.Prelude.{ℕ, ◌+◌, ◌-◌, Bool, true, false, not, ◌&&◌, ◌||◌, if◌then◌else◌, ◌==◌, nat_lt, length}
use Rattle.std.specs.Prelude.{ℤ, pos, int_le, Option, Some, None, is_some, Result, Ok, Err}
use Rattle.lock_word.specs.declared.ThreadId.{ThreadId}
use Rattle.lock_word.specs.declared.ObjectId.{ObjectId}
use Rattle.fat_monitor.specs.declared.actions.Cause.{Cause}
use Rattle.fat_monitor.specs.declared.actions.Cause.TheVariants as cause
use Rattle.fat_monitor.specs.declared.actions.Reply.{Reply}
use Rattle.fat_monitor.specs.declared.actions.Reply.TheVariants as reply
use Rattle.fat_monitor.specs.declared.actions.Why.TheVariants as why
use Rattle.fast_path.specs.declared.calls.Call.{Call}
use Rattle.fast_path.specs.declared.calls.Call.TheVariants as call
use Rattle.fast_path.specs.Calls.{object_of}
use Rattle.step_core.specs.declared.machine.Doing.{Doing}
use Rattle.step_core.specs.declared.machine.Doing.TheVariants.{Idle, Wants, Waits, Back, Has}
use Rattle.step_core.specs.declared.machine.Move.{Move}
use Rattle.step_core.specs.declared.machine.Move.TheVariants as move
use Rattle.fat_monitor.specs.Replies.{yes_or_no}
use Rattle.step_core.specs.Machine.{owner_only, over_at, flag_back, reply_of, after_interrupt}
use Rattle.jls_check.specs.declared.threads.Live.{Live}
use Rattle.jls_check.specs.declared.monitors.Held.{Held}
use Rattle.jls_check.specs.declared.machine.Wish.{Wish}
use Rattle.jls_check.specs.declared.faults.MoveFault.{MoveFault}
use Rattle.jls_check.specs.declared.faults.MoveFault.TheVariants.{Broken, Memory}
use Rattle.jls_check.specs.LiveThreads.{live_of, without_live, some_waits, all_back}
use Rattle.jls_check.specs.Monitors.{unheld, waiting_in, with_waiting, is_owned_by, owns_one}
use Rattle.jls_check.specs.MachineState.{MachineState, held_at, put, put_reply, with_held, owns}

-- an answer, and what is known then
pub record AfterMove : Type 0 where
  pub answer : Result (Unit {0}) MoveFault
  pub after : MachineState

abbrev pub taken : MachineState → Option MachineState → AfterMove
taken v None = record { answer = Err Broken; after = v }
taken v (Some w) = record { answer = Ok tt; after = w }

-- the call that a thread has made and that has no answer yet, and its flag
abbrev pub wants : Bool → Doing → Option (Bool × Call)
wants flag (Wants c) = Some (flag, c)
wants flag Idle = None
wants flag (Waits o n d) = None
wants flag (Back o n w) = None
wants flag (Has r) = None

abbrev pub wanted_of : Option Live → Option (Bool × Call)
wanted_of None = None
wanted_of (Some x) = wants x.flag x.act

abbrev pub wanted : MachineState → ThreadId → Option (Bool × Call)
wanted v t = wanted_of (live_of v.threads t)

-- ---- a thread begins, calls and returns

abbrev pub attach_at : MachineState → ThreadId → Option Live → Option MachineState
attach_at v t None = Some (put v t false Idle)
attach_at v t (Some x) = None

abbrev pub attach : MachineState → ThreadId → Option MachineState
attach v t = attach_at v t (live_of v.threads t)

abbrev pub after_attach_move : Bool → MachineState → ThreadId → AfterMove
after_attach_move true v t = taken v (attach v t)
after_attach_move false v t =
    record { answer = Err (if is_some (live_of v.threads t) then Broken else Memory); after = v }

-- the object that a call names, if it names one, exists
abbrev pub exists_below : ℕ → Option ObjectId → Bool
exists_below n None = true
exists_below n (Some o) = nat_lt o.0 n

abbrev pub make_call_from : MachineState → ThreadId → Call → Bool → Doing → Option MachineState
make_call_from v t c flag Idle =
    if exists_below (length v.objects) (object_of c) then Some (put v t flag (Wants c)) else None
make_call_from v t c flag (Wants d) = None
make_call_from v t c flag (Waits o n d) = None
make_call_from v t c flag (Back o n w) = None
make_call_from v t c flag (Has r) = None

abbrev pub make_call_at : MachineState → ThreadId → Call → Option Live → Option MachineState
make_call_at v t c None = None
make_call_at v t c (Some x) = make_call_from v t c x.flag x.act

abbrev pub make_call : MachineState → ThreadId → Call → Option MachineState
make_call v t c = make_call_at v t c (live_of v.threads t)

-- replies have distinct numbers
abbrev pub distinct_number : Reply → ℕ
distinct_number reply.Entered = 0
distinct_number reply.Exited = 1
distinct_number reply.WaitOver = 2
distinct_number reply.Interrupted = 3
distinct_number reply.Notified = 4
distinct_number reply.Yes = 5
distinct_number reply.No = 6
distinct_number reply.Done = 7
distinct_number reply.Ended = 8
distinct_number reply.IllegalMonitorState = 9
distinct_number reply.IllegalArgument = 10
distinct_number (reply.Refused cause.NoMonitor) = 11
distinct_number (reply.Refused cause.Memory) = 12
distinct_number (reply.Refused cause.TooDeep) = 13
distinct_number (reply.Refused cause.StillOwner) = 14
distinct_number (reply.Refused cause.NoThread) = 15

abbrev pub has_reply : Doing → Reply → Bool
has_reply (Has q) r = distinct_number q == distinct_number r
has_reply Idle r = false
has_reply (Wants c) r = false
has_reply (Waits o n d) r = false
has_reply (Back o n w) r = false

-- what is left where t returns with this reply: after Ended it is live no longer
abbrev pub after_return : MachineState → ThreadId → Bool → Reply → MachineState
after_return v t flag reply.Ended = record v { threads = without_live v.threads t }
after_return v t flag r = put v t flag Idle

abbrev pub return_at : MachineState → ThreadId → Reply → Option Live → Option MachineState
return_at v t r None = None
return_at v t r (Some x) = if has_reply x.act r then Some (after_return v t x.flag r) else None

abbrev pub return_with : MachineState → ThreadId → Reply → Option MachineState
return_with v t r = return_at v t r (live_of v.threads t)

-- ---- locks

abbrev pub may_be_locked : Held → ThreadId → Bool
may_be_locked h t = (not (is_some h.owner) || is_owned_by h.owner t) && nat_lt h.count 65535

abbrev pub held_by : ThreadId → ℕ → Held
held_by t n = record { owner = Some t; count = n }

abbrev pub lock_for : MachineState → ThreadId → Option (Bool × Call) → Option MachineState
lock_for v t None = None
lock_for v t (Some (flag, call.Enter o)) =
    if may_be_locked (held_at v o) t
    then Some (put_reply (with_held v o (held_by t ((held_at v o).count + 1))) t flag reply.Entered)
    else None
lock_for v t (Some (flag, c)) = None

abbrev pub lock : MachineState → ThreadId → Option MachineState
lock v t = lock_for v t (wanted v t)

-- one lock less of t, which has n
abbrev pub less_held : ThreadId → ℕ → Held
less_held t n = if n == 1 then unheld else held_by t (n - 1)

abbrev pub unlock_for : MachineState → ThreadId → Option (Bool × Call) → Option MachineState
unlock_for v t None = None
unlock_for v t (Some (flag, call.Exit o)) =
    if owns v t o && nat_lt 0 (held_at v o).count
    then Some (put_reply (with_held v o (less_held t (held_at v o).count)) t flag reply.Exited)
    else None
unlock_for v t (Some (flag, c)) = None

abbrev pub unlock : MachineState → ThreadId → Option MachineState
unlock v t = unlock_for v t (wanted v t)

abbrev pub illegal_on : MachineState → ThreadId → Bool → Option ObjectId → Option MachineState
illegal_on v t flag None = None
illegal_on v t flag (Some o) = if owns v t o then None else Some (put_reply v t flag reply.IllegalMonitorState)

abbrev pub illegal_for : MachineState → ThreadId → Option (Bool × Call) → Option MachineState
illegal_for v t None = None
illegal_for v t (Some (flag, c)) = illegal_on v t flag (owner_only c)

abbrev pub illegal : MachineState → ThreadId → Option MachineState
illegal v t = illegal_for v t (wanted v t)

-- ---- waits

-- what a thread wants that wants to wait on an object that it owns
abbrev pub wish_for : MachineState → ThreadId → Option (Bool × Call) → Option Wish
wish_for v t None = None
wish_for v t (Some (flag, call.Wait o millis nanos)) =
    if owns v t o then Some (record { flag = flag; object = o; millis = millis; nanos = nanos }) else None
wish_for v t (Some (flag, c)) = None

abbrev pub wish : MachineState → ThreadId → Option Wish
wish v t = wish_for v t (wanted v t)

-- the arguments of a wait are in their ranges
abbrev pub is_good : ℤ → ℤ → Bool
is_good millis nanos = int_le (pos 0) millis && int_le (pos 0) nanos && int_le nanos (pos 999999)

abbrev pub bad_argument_of : MachineState → ThreadId → Option Wish → Option MachineState
bad_argument_of v t None = None
bad_argument_of v t (Some w) =
    if is_good w.millis w.nanos then None else Some (put_reply v t w.flag reply.IllegalArgument)

abbrev pub bad_argument : MachineState → ThreadId → Option MachineState
bad_argument v t = bad_argument_of v t (wish v t)

abbrev pub early_of : MachineState → ThreadId → Option Wish → Option MachineState
early_of v t None = None
early_of v t (Some w) =
    if is_good w.millis w.nanos && w.flag then Some (put_reply v t false reply.Interrupted) else None

abbrev pub early : MachineState → ThreadId → Option MachineState
early v t = early_of v t (wish v t)

abbrev pub wait_of : MachineState → ThreadId → Option Wish → Option MachineState
wait_of v t None = None
wait_of v t (Some w) =
    if is_good w.millis w.nanos && not w.flag
    then Some (put (with_held v w.object unheld) t false
    (Waits w.object (held_at v w.object).count (over_at v.moment w.millis w.nanos)))
    else None

abbrev pub wait : MachineState → ThreadId → Option MachineState
wait v t = wait_of v t (wish v t)

-- ---- notifications

-- u, which does this, is taken out of the wait set of o by t
abbrev pub notify_from : MachineState → ThreadId → Bool → ObjectId → ThreadId → Bool → Doing → Option MachineState
notify_from v t flag o u other (Waits p n d) =
    if p.0 == o.0 then Some (put (put_reply v t flag reply.Notified) u other (Back p n why.Notified)) else None
notify_from v t flag o u other Idle = None
notify_from v t flag o u other (Wants c) = None
notify_from v t flag o u other (Back p n w) = None
notify_from v t flag o u other (Has r) = None

abbrev pub notify_at : MachineState → ThreadId → Bool → ObjectId → ThreadId → Option Live → Option MachineState
notify_at v t flag o u None = None
notify_at v t flag o u (Some x) = notify_from v t flag o u x.flag x.act

abbrev pub notify_for : MachineState → ThreadId → ThreadId → Option (Bool × Call) → Option MachineState
notify_for v t u None = None
notify_for v t u (Some (flag, call.Notify o)) =
    if owns v t o then notify_at v t flag o u (live_of v.threads u) else None
notify_for v t u (Some (flag, c)) = None

abbrev pub notify : MachineState → ThreadId → ThreadId → Option MachineState
notify v t u = notify_for v t u (wanted v t)

abbrev pub notify_nobody_for : MachineState → ThreadId → Option (Bool × Call) → Option MachineState
notify_nobody_for v t None = None
notify_nobody_for v t (Some (flag, call.Notify o)) =
    if owns v t o && not (some_waits v.threads o) then Some (put_reply v t flag reply.Notified) else None
notify_nobody_for v t (Some (flag, c)) = None

abbrev pub notify_nobody : MachineState → ThreadId → Option MachineState
notify_nobody v t = notify_nobody_for v t (wanted v t)

-- the wait set of o is empty; the threads are looked at only where some wait
abbrev pub all_left : MachineState → ObjectId → MachineState
all_left v o =
    if waiting_in v.objects o == 0 then v
    else record v { threads = all_back v.threads o; objects = with_waiting v.objects o 0 }

abbrev pub notify_all_for : MachineState → ThreadId → Option (Bool × Call) → Option MachineState
notify_all_for v t None = None
notify_all_for v t (Some (flag, call.NotifyAll o)) =
    if owns v t o then Some (put_reply (all_left v o) t flag reply.Notified) else None
notify_all_for v t (Some (flag, c)) = None

abbrev pub notify_all : MachineState → ThreadId → Option MachineState
notify_all v t = notify_all_for v t (wanted v t)

-- ---- interrupts

abbrev pub interrupt_at : MachineState → ThreadId → Bool → ThreadId → Option Live → Option MachineState
interrupt_at v t flag u None = None
interrupt_at v t flag u (Some x) =
    Some (put_reply (put v u true (after_interrupt x.act)) t (if t.0 == u.0 then true else flag) reply.Done)

abbrev pub interrupt_for : MachineState → ThreadId → Option (Bool × Call) → Option MachineState
interrupt_for v t None = None
interrupt_for v t (Some (flag, call.Interrupt u)) = interrupt_at v t flag u (live_of v.threads u)
interrupt_for v t (Some (flag, c)) = None

abbrev pub interrupt : MachineState → ThreadId → Option MachineState
interrupt v t = interrupt_for v t (wanted v t)

abbrev pub test_clear_for : MachineState → ThreadId → Option (Bool × Call) → Option MachineState
test_clear_for v t None = None
test_clear_for v t (Some (flag, call.Interrupted)) = Some (put_reply v t false (yes_or_no flag))
test_clear_for v t (Some (flag, c)) = None

abbrev pub test_clear : MachineState → ThreadId → Option MachineState
test_clear v t = test_clear_for v t (wanted v t)

-- ---- the way back from a wait set

abbrev pub expire_from : MachineState → ThreadId → Bool → Doing → Option MachineState
expire_from v t flag (Waits o n (Some d)) =
    if nat_lt v.moment d then None else Some (put v t flag (Back o n why.Elapsed))
expire_from v t flag (Waits o n None) = None
expire_from v t flag Idle = None
expire_from v t flag (Wants c) = None
expire_from v t flag (Back o n w) = None
expire_from v t flag (Has r) = None

abbrev pub expire_at : MachineState → ThreadId → Option Live → Option MachineState
expire_at v t None = None
expire_at v t (Some x) = expire_from v t x.flag x.act

abbrev pub expire : MachineState → ThreadId → Option MachineState
expire v t = expire_at v t (live_of v.threads t)

abbrev pub wake_from : MachineState → ThreadId → Bool → Doing → Option MachineState
wake_from v t flag (Waits o n d) = Some (put v t flag (Back o n why.Spurious))
wake_from v t flag Idle = None
wake_from v t flag (Wants c) = None
wake_from v t flag (Back o n w) = None
wake_from v t flag (Has r) = None

abbrev pub wake_at : MachineState → ThreadId → Option Live → Option MachineState
wake_at v t None = None
wake_at v t (Some x) = wake_from v t x.flag x.act

abbrev pub wake : MachineState → ThreadId → Option MachineState
wake v t = wake_at v t (live_of v.threads t)

abbrev pub relock_from : MachineState → ThreadId → Bool → Doing → Option MachineState
relock_from v t flag (Back o n w) =
    if is_some (held_at v o).owner then None
    else Some (put_reply (with_held v o (held_by t n)) t (flag_back w flag) (reply_of w))
relock_from v t flag Idle = None
relock_from v t flag (Wants c) = None
relock_from v t flag (Waits o n d) = None
relock_from v t flag (Has r) = None

abbrev pub relock_at : MachineState → ThreadId → Option Live → Option MachineState
relock_at v t None = None
relock_at v t (Some x) = relock_from v t x.flag x.act

abbrev pub relock : MachineState → ThreadId → Option MachineState
relock v t = relock_at v t (live_of v.threads t)

-- ---- questions, refusals and ends

abbrev pub ask_at : MachineState → ThreadId → Bool → Option Live → Option MachineState
ask_at v t flag None = None
ask_at v t flag (Some x) = Some (put_reply v t flag (yes_or_no x.flag))

abbrev pub ask_for : MachineState → ThreadId → Option (Bool × Call) → Option MachineState
ask_for v t None = None
ask_for v t (Some (flag, call.Holds o)) = Some (put_reply v t flag (yes_or_no (owns v t o)))
ask_for v t (Some (flag, call.IsInterrupted u)) = ask_at v t flag (live_of v.threads u)
ask_for v t (Some (flag, c)) = None

abbrev pub ask : MachineState → ThreadId → Option MachineState
ask v t = ask_for v t (wanted v t)

abbrev pub may_refuse : MachineState → ThreadId → Call → Cause → Bool
may_refuse v t (call.Enter o) cause.NoMonitor = owns v t o
may_refuse v t (call.Enter o) cause.Memory = owns v t o
may_refuse v t (call.Enter o) cause.TooDeep = owns v t o && ((held_at v o).count == 65535)
may_refuse v t (call.Wait o millis nanos) cause.NoMonitor = owns v t o && is_good millis nanos
may_refuse v t (call.Wait o millis nanos) cause.Memory = owns v t o && is_good millis nanos
may_refuse v t (call.Interrupt u) cause.NoThread = not (is_some (live_of v.threads u))
may_refuse v t (call.IsInterrupted u) cause.NoThread = not (is_some (live_of v.threads u))
may_refuse v t call.End cause.StillOwner = owns_one v.objects t
may_refuse v t c why = false

abbrev pub refuse_for : MachineState → ThreadId → Cause → Option (Bool × Call) → Option MachineState
refuse_for v t why None = None
refuse_for v t why (Some (flag, c)) =
    if may_refuse v t c why then Some (put_reply v t flag (reply.Refused why)) else None

abbrev pub refuse_call : MachineState → ThreadId → Cause → Option MachineState
refuse_call v t why = refuse_for v t why (wanted v t)

abbrev pub end_thread_for : MachineState → ThreadId → Option (Bool × Call) → Option MachineState
end_thread_for v t None = None
end_thread_for v t (Some (flag, call.End)) =
    if owns_one v.objects t then None else Some (put_reply v t flag reply.Ended)
end_thread_for v t (Some (flag, c)) = None

abbrev pub end_thread : MachineState → ThreadId → Option MachineState
end_thread v t = end_thread_for v t (wanted v t)

abbrev pub time : MachineState → ℕ → Option MachineState
time v now = if nat_lt now v.moment then None else Some (record v { moment = now })

-- ---- each move

abbrev pub takes : MachineState → Move → Option MachineState
takes v (move.Attach t) = attach v t
takes v (move.Call t c) = make_call v t c
takes v (move.Return t r) = return_with v t r
takes v (move.Lock t) = lock v t
takes v (move.Unlock t) = unlock v t
takes v (move.Illegal t) = illegal v t
takes v (move.BadArgument t) = bad_argument v t
takes v (move.Early t) = early v t
takes v (move.Wait t) = wait v t
takes v (move.Notify t (Some u)) = notify v t u
takes v (move.Notify t None) = notify_nobody v t
takes v (move.NotifyAll t) = notify_all v t
takes v (move.Interrupt t) = interrupt v t
takes v (move.TestClear t) = test_clear v t
takes v (move.Expire t) = expire v t
takes v (move.Spurious t) = wake v t
takes v (move.Relock t) = relock v t
takes v (move.Ask t) = ask v t
takes v (move.Refuse t why) = refuse_call v t why
takes v (move.End t) = end_thread v t
takes v (move.Time now) = time v now

-- the answer to a move, where there is room for one more thread, or is none
abbrev pub after_move : Bool → MachineState → Move → AfterMove
after_move room v (move.Attach t) = after_attach_move room v t
after_move room v m = taken v (takes v m)
