-- The text of a dump.
use Rattle.std.specs.Prelude.{◌≡◌, ℕ, Bool, true, false, List, [], ◌∷◌, ◌++◌, Option, Some, None, codes, decimal}
use Rattle.std.specs.List.{join_with_byte, flat_map}
use Rattle.std.specs.Option.{unwrap_or}
use Rattle.lock_word.specs.declared.ThreadId.{ThreadId}
use Rattle.thread_index.specs.Indices.{index_of}
use Rattle.fat_monitor.specs.declared.actions.Why.{Why}
use Rattle.fat_monitor.specs.declared.actions.Why.TheVariants as why
use Rattle.fat_monitor.specs.Names.{reply_name}
use Rattle.fast_path.specs.declared.calls.Call.{Call}
use Rattle.fast_path.specs.declared.calls.Call.TheVariants.{Enter, Exit, Wait, Notify, NotifyAll, Holds, Interrupt}
use Rattle.fast_path.specs.declared.calls.Call.TheVariants.{Interrupted, IsInterrupted, End}
use Rattle.script_text.specs.declared.lines.Call.{Call as CallLine}
use Rattle.script_text.specs.declared.lines.Call.TheVariants as line
use Rattle.script_text.specs.Lines.{call_words}
use Rattle.history.specs.NameLists.{NameLists, name_at}
use Rattle.step_core.specs.declared.machine.Doing.{Doing}
use Rattle.step_core.specs.declared.machine.Doing.TheVariants.{Idle, Wants, Waits, Back, Has}
use Rattle.step_core.specs.Machine.{Thread}
use Rattle.step_core.specs.Cycles.{AreCycles}
use Rattle.step_core.specs.World.{WorldState}
use Rattle.step_core.specs.Shown.{shown}
use Rattle.owner_cycles.specs.Threads.{AreLiveThreads}

abbrev pub thread_name : NameLists → ThreadId → List ℕ
thread_name names t = name_at names.threads t.0

-- a call with the names of a script
abbrev pub named_call : NameLists → Call → CallLine
named_call names (Enter o) = line.Enter (name_at names.objects o.0)
named_call names (Exit o) = line.Exit (name_at names.objects o.0)
named_call names (Wait o millis nanos) = line.Wait (name_at names.objects o.0) millis nanos
named_call names (Notify o) = line.Notify (name_at names.objects o.0)
named_call names (NotifyAll o) = line.NotifyAll (name_at names.objects o.0)
named_call names (Holds o) = line.Holds (name_at names.objects o.0)
named_call names (Interrupt t) = line.Interrupt (thread_name names t)
named_call names Interrupted = line.Interrupted
named_call names (IsInterrupted t) = line.IsInterrupted (thread_name names t)
named_call names End = line.End

-- a moment, or `-`
abbrev pub deadline_text : Option ℕ → List ℕ
deadline_text None = codes "-"
deadline_text (Some moment) = decimal moment

abbrev pub why_text : Why → List ℕ
why_text why.Notified = codes "Notified"
why_text why.Interrupted = codes "Interrupted"
why_text why.Elapsed = codes "Elapsed"
why_text why.Spurious = codes "Spurious"

abbrev pub act_words : NameLists → Doing → List (List ℕ)
act_words names Idle = codes "idle" ∷ []
act_words names (Wants c) = codes "wants" ∷ call_words (named_call names c)
act_words names (Waits o n d) = codes "waits" ∷ name_at names.objects o.0 ∷ decimal n ∷ deadline_text d ∷ []
act_words names (Back o n w) = codes "back" ∷ name_at names.objects o.0 ∷ decimal n ∷ why_text w ∷ []
act_words names (Has r) = codes "has" ∷ reply_name r ∷ []

abbrev pub act_text : NameLists → Doing → List ℕ
act_text names d = join_with_byte 32 (act_words names d)

abbrev pub flag_text : Bool → List ℕ
flag_text true = codes "yes"
flag_text false = codes "no"

-- the line of a thread with this name and index
abbrev pub thread_text : NameLists → List ℕ → ℕ → Thread → List ℕ
thread_text names name index x =
    codes "thread " ++ name ++ codes " index " ++ decimal index ++ 32 ∷ act_text names x.act ++ codes " flag "
    ++ flag_text x.flag ++ 10 ∷ []

-- the line of a live thread
abbrev pub thread_line : NameLists → ThreadId → Option ℕ → Option Thread → List ℕ
thread_line names t index None = []
thread_line names t index (Some x) = thread_text names (thread_name names t) (unwrap_or index 0) x

abbrev pub line_in : WorldState → NameLists → ThreadId → List ℕ
line_in w names t = thread_line names t (index_of w.berths t) ((shown w).thread t)

-- the names of a cycle's threads, each behind a space
abbrev pub cycle_text : NameLists → List ThreadId → List ℕ
cycle_text names c = codes "cycle" ++ flat_map (λ t. 32 ∷ thread_name names t) c ++ 10 ∷ []

abbrev pub cycles_text : NameLists → List (List ThreadId) → List ℕ
cycles_text names [] = codes "no cycle" ++ 10 ∷ []
cycles_text names (c ∷ cs) = flat_map (cycle_text names) (c ∷ cs)

-- a line for each live thread, by rising number; and then one for each cycle of owners, or that there is none
pub record IsDump (w : WorldState) (names : NameLists) (text : List ℕ) : Type 0 where
  pub threads : List ThreadId
  pub live : AreLiveThreads (shown w) threads
  pub cycles : List (List ThreadId)
  pub exact : AreCycles (shown w) cycles
  pub lines : text ≡ flat_map (line_in w names) threads ++ cycles_text names cycles
