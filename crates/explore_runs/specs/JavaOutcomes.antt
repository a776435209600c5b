-- The text of what the threads and objects of a program have come to on the Java machine.
use Rattle.std.specs.Prelude.{◌≡◌, ℕ, zero, suc, ◌-◌, if◌then◌else◌, List, [], ◌∷◌, ◌++◌, length, codes, decimal}
use Rattle.std.specs.List.{flat_map}
use Rattle.lock_word.specs.declared.ObjectId.{ObjectId}
use Rattle.lock_word.specs.declared.ThreadId.{ThreadId}
use Rattle.step_core.specs.Cycles.{AreCycles}
use Rattle.step_core.specs.Machine.{State, is_waiting}
use Rattle.jls_check.specs.MachineState.{state}
use Rattle.history.specs.NameLists.{NameLists, name_at}
use Rattle.history.specs.Reports.{owner_text, threads_text}
use Rattle.dump.specs.Reports.{cycle_text}
use Rattle.explore.specs.declared.programs.Program.{Program}
use Rattle.explore.specs.States.{end_of, start_of}
use Rattle.explore_java.specs.JavaStates.{JavaProgramState}
use Rattle.explore_runs.specs.Outcomes.{doing_text, replies_text}

-- the line of a thread: its replies in order, where it is stuck, and whether it is interrupted
abbrev pub java_thread_line : NameLists → Program → JavaProgramState → ℕ → List ℕ
java_thread_line names p s k =
    codes "thread " ++ name_at names.threads k
    ++ replies_text s.replies (start_of p k) (end_of p k - start_of p k)
    ++ doing_text names ((state s.machine).thread (record { 0 = k })) ++ 10 ∷ []

abbrev pub java_thread_lines : NameLists → Program → JavaProgramState → ℕ → List ℕ
java_thread_lines names p s zero = []
java_thread_lines names p s (suc n) = java_thread_lines names p s n ++ java_thread_line names p s n

-- the thread, if it is in the wait set of o
abbrev pub java_waiter : State → ObjectId → ThreadId → List ThreadId
java_waiter x o t = if is_waiting (x.thread t) o then t ∷ [] else []

-- those with the numbers below n, by rising number
abbrev pub java_waiters : State → ObjectId → ℕ → List ThreadId
java_waiters x o zero = []
java_waiters x o (suc n) = java_waiters x o n ++ java_waiter x o (record { 0 = n })

-- the line of an object: its owner, its holds, and the threads in its wait set
abbrev pub java_object_line : NameLists → State → ObjectId → List ThreadId → List ℕ
java_object_line names x o waiting =
    codes "object " ++ name_at names.objects o.0 ++ codes " owner " ++ owner_text names (x.monitor o).owner
    ++ codes " holds " ++ decimal (x.monitor o).count ++ codes " waiting " ++ threads_text names waiting ++ 10 ∷ []

abbrev pub java_object_lines : NameLists → State → ℕ → ℕ → List ℕ
java_object_lines names x threads zero = []
java_object_lines names x threads (suc n) =
    java_object_lines names x threads n
    ++ java_object_line names x (record { 0 = n }) (java_waiters x (record { 0 = n }) threads)

-- A line for each thread, one for each object, and one for each cycle of owners.
pub record IsJavaOutcome (names : NameLists) (p : Program) (s : JavaProgramState) (text : List ℕ) : Type 0 where
  pub cycles : List (List ThreadId)
  pub exact : AreCycles (state s.machine) cycles
  pub lines : text ≡ java_thread_lines names p s (length p.starts.items)
      ++ (java_object_lines names (state s.machine) (length p.starts.items) (length p.lows.items)
      ++ flat_map (cycle_text names) cycles)
