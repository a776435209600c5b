-- The text of a live script that was run.
use Rattle.std.specs.Prelude.{ℕ, Bool, true, false, List, [], ◌∷◌, ◌++◌, Result, Ok, Err, codes, decimal, map, sum}
use Rattle.std.specs.List.{flat_map}
use Rattle.lock_word.specs.Names.{word_text}
use Rattle.fat_monitor.specs.declared.actions.Reply.{Reply}
use Rattle.fat_monitor.specs.declared.actions.Reply.TheVariants as reply
use Rattle.fat_monitor.specs.Names.{cause_name}
use Rattle.script_text.specs.declared.lines.Line.{Line}
use Rattle.live_scripts.specs.Rules.{attached_threads}
use Rattle.live_scripts.specs.Plans.{objects_of}
use Rattle.live_turns.specs.declared.closed.Closed.{Closed}
use Rattle.live_book.specs.declared.faults.LiveFault.{LiveFault}
use Rattle.live_book.specs.Names.{live_fault_name, live_fault_number}

-- a reply is one word
abbrev pub reply_word : Reply → List ℕ
reply_word reply.Entered = codes "Entered"
reply_word reply.Exited = codes "Exited"
reply_word reply.WaitOver = codes "WaitOver"
reply_word reply.Interrupted = codes "Interrupted"
reply_word reply.Notified = codes "Notified"
reply_word reply.Yes = codes "Yes"
reply_word reply.No = codes "No"
reply_word reply.Done = codes "Done"
reply_word reply.Ended = codes "Ended"
reply_word reply.IllegalMonitorState = codes "IllegalMonitorState"
reply_word reply.IllegalArgument = codes "IllegalArgument"
reply_word (reply.Refused c) = codes "Refused/" ++ cause_name c

-- what a call came to, behind a space
abbrev pub answer_text : Result Reply LiveFault → List ℕ
answer_text (Ok r) = 32 ∷ reply_word r
answer_text (Err f) = codes " fault/" ++ decimal (live_fault_number f) ++ codes "/" ++ live_fault_name f

abbrev pub answers_text : List (Result Reply LiveFault) → List ℕ
answers_text answers = flat_map answer_text answers

abbrev pub stop_text : Bool → List ℕ
stop_text true = codes " stopped"
stop_text false = []

-- the line of a thread with this name: what its calls came to, and whether it was stopped
abbrev pub thread_text : List ℕ → List (Result Reply LiveFault) × Bool → List ℕ
thread_text name worker = codes "thread " ++ name ++ answers_text worker.0 ++ stop_text worker.1 ++ 10 ∷ []

abbrev pub object_text : List ℕ → ℕ → List ℕ
object_text name word = codes "object " ++ name ++ 32 ∷ word_text word ++ 10 ∷ []

abbrev pub deeds_text : ℕ → List ℕ
deeds_text deeds = codes "actions " ++ decimal deeds ++ 10 ∷ []

-- a line for each name, with what stands at its position
abbrev pub each_text : {X : Type 0} → (List ℕ → X → List ℕ) → List (List ℕ) → List X → List ℕ
each_text line [] xs = []
each_text line (name ∷ names) [] = []
each_text line (name ∷ names) (x ∷ xs) = line name x ++ each_text line names xs

-- a line for each thread of a live script, one for each object, and the number of deeds
abbrev pub live_text : List Line → List (List (Result Reply LiveFault) × Bool) → Closed → List ℕ
live_text script workers closed =
    each_text thread_text (attached_threads script) workers
    ++ each_text object_text (objects_of script) (map (λ w. w.0) closed.words.items)
    ++ deeds_text (sum closed.counts.items)
