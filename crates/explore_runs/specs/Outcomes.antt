-- The text of what the threads and objects of a program have come to.
use Rattle.std.specs.Prelude.{◌≡◌, ℕ, zero, suc, ◌+◌, ◌-◌, Bool, true, false, List, []}
use Rattle.std.specs.Prelude.{◌∷◌, ◌++◌, length, Option, Some, None}
use Rattle.std.specs.Prelude.{codes, decimal, slice_get}
use Rattle.std.specs.List.{flat_map, join_with_byte}
use Rattle.lock_word.specs.declared.ObjectId.{ObjectId}
use Rattle.lock_word.specs.declared.ThreadId.{ThreadId}
use Rattle.fat_monitor.specs.declared.actions.Reply.{Reply}
use Rattle.fat_monitor.specs.declared.actions.Reply.TheVariants as reply
use Rattle.fat_monitor.specs.Names.{cause_name, reply_name}
use Rattle.script_text.specs.Lines.{call_words}
use Rattle.step_core.specs.declared.machine.Doing.{Doing}
use Rattle.step_core.specs.declared.machine.Doing.TheVariants as doing
use Rattle.step_core.specs.Cycles.{AreCycles}
use Rattle.step_core.specs.Machine.{Thread}
use Rattle.step_core.specs.Shown.{shown}
use Rattle.step_core.specs.World.{WorldState}
use Rattle.history.specs.NameLists.{NameLists, name_at}
use Rattle.history.specs.Reports.{standing_text, threads_text, waiters_below}
use Rattle.dump.specs.Reports.{cycle_text, named_call}
use Rattle.explore.specs.declared.programs.Program.{Program}
use Rattle.explore.specs.States.{ProgramState, end_of, start_of}

-- a reply is one word, behind a space
abbrev pub reply_word : Reply → List ℕ
reply_word (reply.Refused c) = codes " Refused/" ++ cause_name c
reply_word r = 32 ∷ reply_name r

-- the reply of a call, if it has one
abbrev pub reply_text : Option (Option Reply) → List ℕ
reply_text None = []
reply_text (Some None) = []
reply_text (Some (Some r)) = reply_word r

-- the replies of so many calls, from this one on
abbrev pub replies_text : List (Option Reply) → ℕ → ℕ → List ℕ
replies_text replies start zero = []
replies_text replies start (suc n) = replies_text replies start n ++ reply_text (slice_get replies (start + n))

-- where a thread is stuck in a call
abbrev pub stuck_text : NameLists → Doing → List ℕ
stuck_text names doing.Idle = []
stuck_text names (doing.Wants c) = codes " stuck " ++ join_with_byte 32 (call_words (named_call names c))
stuck_text names (doing.Waits o n d) = codes " stuck waits " ++ name_at names.objects o.0 ++ 32 ∷ decimal n
stuck_text names (doing.Back o n why) = codes " stuck back " ++ name_at names.objects o.0 ++ 32 ∷ decimal n
stuck_text names (doing.Has r) = codes " stuck has" ++ reply_word r

abbrev pub interrupt_text : Bool → List ℕ
interrupt_text true = codes " interrupted"
interrupt_text false = []

-- what a live thread is doing; one that has ended does nothing
abbrev pub doing_text : NameLists → Option Thread → List ℕ
doing_text names None = []
doing_text names (Some x) = stuck_text names x.act ++ interrupt_text x.flag

-- the line of a thread: its replies in order, where it is stuck, and whether it is interrupted
abbrev pub thread_line : NameLists → Program → ProgramState → ℕ → List ℕ
thread_line names p s k =
    codes "thread " ++ name_at names.threads k
    ++ replies_text s.replies (start_of p k) (end_of p k - start_of p k)
    ++ doing_text names ((shown s.world).thread (record { 0 = k })) ++ 10 ∷ []

abbrev pub thread_lines : NameLists → Program → ProgramState → ℕ → List ℕ
thread_lines names p s zero = []
thread_lines names p s (suc n) = thread_lines names p s n ++ thread_line names p s n

-- the line of an object, in whose wait set these threads are: its owner, its holds, and these
abbrev pub object_line : NameLists → WorldState → ObjectId → List ThreadId → List ℕ
object_line names w o waiting =
    codes "object " ++ name_at names.objects o.0 ++ standing_text names w o ++ codes " waiting "
    ++ threads_text names waiting ++ 10 ∷ []

abbrev pub object_lines : NameLists → WorldState → ℕ → List ℕ
object_lines names w zero = []
object_lines names w (suc n) =
    object_lines names w n ++ object_line names w (record { 0 = n }) (waiters_below w n (length names.threads))

-- A line for each thread, one for each object, and one for each cycle of owners.
pub record IsOutcome (names : NameLists) (p : Program) (s : ProgramState) (text : List ℕ) : Type 0 where
  pub cycles : List (List ThreadId)
  pub exact : AreCycles (shown s.world) cycles
  pub lines : text ≡ thread_lines names p s (length p.starts.items)
      ++ (object_lines names s.world (shown s.world).objects ++ flat_map (cycle_text names) cycles)
