-- What the threads of a live script call, by the numbers of their names.
use Rattle.std.specs.Prelude.{ℕ, ◌+◌, List, [], ◌∷◌, ◌++◌, if◌then◌else◌}
use Rattle.std.specs.Str.{bytes_eq}
use Rattle.lock_word.specs.declared.ObjectId.{ObjectId}
use Rattle.lock_word.specs.declared.ThreadId.{ThreadId}
use Rattle.fast_path.specs.declared.calls.Call.{Call}
use Rattle.fast_path.specs.declared.calls.Call.TheVariants.{Enter, Exit, Wait, Notify, NotifyAll, Holds, Interrupt}
use Rattle.fast_path.specs.declared.calls.Call.TheVariants.{Interrupted, IsInterrupted, End}
use Rattle.script_text.specs.declared.lines.Call.{Call as CallLine}
use Rattle.script_text.specs.declared.lines.Call.TheVariants as line
use Rattle.script_text.specs.declared.lines.StepLine.{StepLine}
use Rattle.script_text.specs.declared.lines.StepLine.TheVariants as step
use Rattle.script_text.specs.declared.lines.Line.{Line}
use Rattle.script_text.specs.declared.lines.Line.TheVariants.{World, Object, Step}
use Rattle.script_text.specs.Names.{position_of}

-- objects are numbered from 0, threads from 1
abbrev pub object_of : List (List ℕ) → List ℕ → ObjectId
object_of objects name = record { 0 = position_of objects name }

abbrev pub thread_of : List (List ℕ) → List ℕ → ThreadId
thread_of threads name = record { 0 = position_of threads name + 1 }

abbrev pub call_in : List (List ℕ) → List (List ℕ) → CallLine → Call
call_in objects threads (line.Enter object) = Enter (object_of objects object)
call_in objects threads (line.Exit object) = Exit (object_of objects object)
call_in objects threads (line.Wait object millis nanos) = Wait (object_of objects object) millis nanos
call_in objects threads (line.Notify object) = Notify (object_of objects object)
call_in objects threads (line.NotifyAll object) = NotifyAll (object_of objects object)
call_in objects threads (line.Holds object) = Holds (object_of objects object)
call_in objects threads (line.Interrupt target) = Interrupt (thread_of threads target)
call_in objects threads line.Interrupted = Interrupted
call_in objects threads (line.IsInterrupted target) = IsInterrupted (thread_of threads target)
call_in objects threads line.End = End

abbrev pub calls_in_step : List (List ℕ) → List (List ℕ) → List ℕ → StepLine → List Call
calls_in_step objects threads thread (step.Attach t) = []
calls_in_step objects threads thread (step.Begin t call) =
    if bytes_eq t thread then call_in objects threads call ∷ [] else []
calls_in_step objects threads thread (step.Go t) = []
calls_in_step objects threads thread (step.Expire t) = []
calls_in_step objects threads thread (step.Spurious t) = []
calls_in_step objects threads thread (step.Tick now) = []
calls_in_step objects threads thread (step.Relayout split) = []

abbrev pub calls_in : List (List ℕ) → List (List ℕ) → List ℕ → Line → List Call
calls_in objects threads thread (World monitors indices split) = []
calls_in objects threads thread (Object name low) = []
calls_in objects threads thread (Step s) = calls_in_step objects threads thread s

-- the calls of a thread, in order
abbrev pub calls_of : List (List ℕ) → List (List ℕ) → List ℕ → List Line → List Call
calls_of objects threads thread [] = []
calls_of objects threads thread (l ∷ ls) = calls_in objects threads thread l ++ calls_of objects threads thread ls

abbrev pub monitors_of : Line → ℕ
monitors_of (World monitors indices split) = monitors
monitors_of (Object name low) = 0
monitors_of (Step s) = 0

-- how many fat monitors the world has
abbrev pub monitors_in : List Line → ℕ
monitors_in [] = 0
monitors_in (l ∷ ls) = monitors_of l

abbrev pub lows_in : Line → List ℕ
lows_in (World monitors indices split) = []
lows_in (Object name low) = low ∷ []
lows_in (Step s) = []

-- the low bytes of the objects
abbrev pub lows_of : List Line → List ℕ
lows_of [] = []
lows_of (l ∷ ls) = lows_in l ++ lows_of ls

abbrev pub objects_in : Line → List (List ℕ)
objects_in (World monitors indices split) = []
objects_in (Object name low) = name ∷ []
objects_in (Step s) = []

-- and their names
abbrev pub objects_of : List Line → List (List ℕ)
objects_of [] = []
objects_of (l ∷ ls) = objects_in l ++ objects_of ls
