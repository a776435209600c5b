-- What a call is about: the monitor of an object, the interrupts of threads, or the end of the caller.
use Rattle.std.specs.Prelude.{Option, Some, None}
use Rattle.lock_word.specs.declared.ObjectId.{ObjectId}
use Rattle.fast_path.specs.declared.calls.Call.{Call}
use Rattle.fast_path.specs.declared.calls.Call.TheVariants as call
use Rattle.fast_path.specs.declared.calls.Operation.{Operation}
use Rattle.fast_path.specs.declared.calls.Operation.TheVariants.{Enter, Exit, Wait, Notify, NotifyAll, Holds}
use Rattle.fast_path.specs.declared.calls.MonitorCall.{MonitorCall}
use Rattle.fast_path.specs.declared.calls.InterruptCall.{InterruptCall}
use Rattle.fast_path.specs.declared.calls.InterruptCall.TheVariants.{Interrupt, Interrupted, IsInterrupted}
use Rattle.fast_path.specs.declared.calls.Subject.{Subject}
use Rattle.fast_path.specs.declared.calls.Subject.TheVariants as subject

-- a call on the monitor of o, among all calls
abbrev pub call_on : ObjectId → Operation → Call
call_on o Enter = call.Enter o
call_on o Exit = call.Exit o
call_on o (Wait millis nanos) = call.Wait o millis nanos
call_on o Notify = call.Notify o
call_on o NotifyAll = call.NotifyAll o
call_on o Holds = call.Holds o

abbrev pub call_of : MonitorCall → Call
call_of c = call_on c.object c.operation

-- a call about interrupts, among all calls
abbrev pub call_about : InterruptCall → Call
call_about (Interrupt u) = call.Interrupt u
call_about Interrupted = call.Interrupted
call_about (IsInterrupted u) = call.IsInterrupted u

abbrev pub on_monitor : ObjectId → Operation → Subject
on_monitor o p = subject.Monitor (record { object = o; operation = p })

abbrev pub subject_of : Call → Subject
subject_of (call.Enter o) = on_monitor o Enter
subject_of (call.Exit o) = on_monitor o Exit
subject_of (call.Wait o millis nanos) = on_monitor o (Wait millis nanos)
subject_of (call.Notify o) = on_monitor o Notify
subject_of (call.NotifyAll o) = on_monitor o NotifyAll
subject_of (call.Holds o) = on_monitor o Holds
subject_of (call.Interrupt u) = subject.Interrupt (Interrupt u)
subject_of call.Interrupted = subject.Interrupt Interrupted
subject_of (call.IsInterrupted u) = subject.Interrupt (IsInterrupted u)
subject_of call.End = subject.End

-- the object that a call names, if it names one
abbrev pub object_in : Subject → Option ObjectId
object_in (subject.Monitor c) = Some c.object
object_in (subject.Interrupt c) = None
object_in subject.End = None

abbrev pub object_of : Call → Option ObjectId
object_of c = object_in (subject_of c)
