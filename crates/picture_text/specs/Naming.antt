-- How threads, objects, calls and replies are named in a picture.
use Rattle.std.specs.Prelude.{ℕ, List, ◌++◌, codes, decimal}
use Rattle.std.specs.List.{join_with_byte}
use Rattle.lock_word.specs.declared.ObjectId.{ObjectId}
use Rattle.lock_word.specs.declared.ThreadId.{ThreadId}
use Rattle.fast_path.specs.declared.calls.Call.{Call}
use Rattle.fast_path.specs.declared.calls.Call.TheVariants.{Enter, Exit, Wait, Notify, NotifyAll, Holds, Interrupt}
use Rattle.fast_path.specs.declared.calls.Call.TheVariants.{Interrupted, IsInterrupted, End}
use Rattle.script_text.specs.declared.lines.Call.{Call as CallLine}
use Rattle.script_text.specs.declared.lines.Call.TheVariants as line
use Rattle.script_text.specs.Lines.{call_words}
use Rattle.history.specs.NameLists.{name_at}
use Rattle.dump.specs.Reports.{named_call}
use Rattle.picture_text.specs.declared.naming.Naming.{Naming}
use Rattle.picture_text.specs.declared.naming.Naming.TheVariants.{Names, Numbers}
use Rattle.picture_text.specs.Nodes.{Node, Words, Figure, Then}

unfoldable pub thread_node : Naming → ThreadId → Node
thread_node (Names names) t = Words (name_at names.now.threads t.0)
thread_node Numbers t = Then (Words (codes "thread ")) (Figure t.0)

unfoldable pub object_node : Naming → ObjectId → Node
object_node (Names names) o = Words (name_at names.now.objects o.0)
object_node Numbers o = Then (Words (codes "object ")) (Figure o.0)

-- what a thread and an object are called beside their lanes and strips
abbrev pub thread_words : Naming → ThreadId → List ℕ
thread_words (Names names) t = name_at names.now.threads t.0
thread_words Numbers t = codes "thread " ++ decimal t.0

abbrev pub object_words : Naming → ObjectId → List ℕ
object_words (Names names) o = name_at names.now.objects o.0
object_words Numbers o = codes "object " ++ decimal o.0

-- a call with numbers for names
abbrev pub numbered_call : Call → CallLine
numbered_call (Enter o) = line.Enter (decimal o.0)
numbered_call (Exit o) = line.Exit (decimal o.0)
numbered_call (Wait o millis nanos) = line.Wait (decimal o.0) millis nanos
numbered_call (Notify o) = line.Notify (decimal o.0)
numbered_call (NotifyAll o) = line.NotifyAll (decimal o.0)
numbered_call (Holds o) = line.Holds (decimal o.0)
numbered_call (Interrupt t) = line.Interrupt (decimal t.0)
numbered_call Interrupted = line.Interrupted
numbered_call (IsInterrupted t) = line.IsInterrupted (decimal t.0)
numbered_call End = line.End

abbrev pub call_line : Naming → Call → CallLine
call_line (Names names) c = named_call names.now c
call_line Numbers c = numbered_call c

-- a call as a script writes it
abbrev pub call_text : Naming → Call → List ℕ
call_text naming c = join_with_byte 32 (call_words (call_line naming c))
