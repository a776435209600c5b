-- The calls of a script, by the numbers of their names.
use Rattle.lock_word.specs.declared.ObjectId.{ObjectId}
use Rattle.lock_word.specs.declared.ThreadId.{ThreadId}
use Rattle.std.specs.Prelude.{ℕ, List}
use Rattle.fast_path.specs.declared.calls.Call.{Call}
use Rattle.fast_path.specs.declared.calls.Call.TheVariants.{Enter, Exit, Wait, Notify, NotifyAll, Holds, Interrupt}
use Rattle.fast_path.specs.declared.calls.Call.TheVariants.{Interrupted, IsInterrupted, End}
use Rattle.script_text.specs.declared.lines.Call.{Call as CallLine}
use Rattle.script_text.specs.declared.lines.Call.TheVariants as line
use Rattle.script_text.specs.Names.{position_of, with_name}
use Rattle.history.specs.NameLists.{NameLists}

abbrev object_in : NameLists → List ℕ → ObjectId
object_in names name = record { 0 = position_of names.objects name }

abbrev pub thread_in : NameLists → List ℕ → ThreadId
thread_in names name = record { 0 = position_of names.threads name }

-- the call that a line has, where these names were there before
abbrev pub call_in : NameLists → CallLine → Call
call_in names (line.Enter object) = Enter (object_in names object)
call_in names (line.Exit object) = Exit (object_in names object)
call_in names (line.Wait object millis nanos) = Wait (object_in names object) millis nanos
call_in names (line.Notify object) = Notify (object_in names object)
call_in names (line.NotifyAll object) = NotifyAll (object_in names object)
call_in names (line.Holds object) = Holds (object_in names object)
call_in names (line.Interrupt target) = Interrupt (thread_in names target)
call_in names line.Interrupted = Interrupted
call_in names (line.IsInterrupted target) = IsInterrupted (thread_in names target)
call_in names line.End = End

-- the names, with that of this thread
abbrev pub with_thread : NameLists → List ℕ → NameLists
with_thread names name = record names { threads = with_name names.threads name }

-- and the names that are there then
abbrev pub names_with : NameLists → CallLine → NameLists
names_with names (line.Enter object) = names
names_with names (line.Exit object) = names
names_with names (line.Wait object millis nanos) = names
names_with names (line.Notify object) = names
names_with names (line.NotifyAll object) = names
names_with names (line.Holds object) = names
names_with names (line.Interrupt target) = with_thread names target
names_with names line.Interrupted = names
names_with names (line.IsInterrupted target) = with_thread names target
names_with names line.End = names
