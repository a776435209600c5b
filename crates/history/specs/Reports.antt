-- The text of a report: what each step and relayout of a script answered, and how the objects stand behind the last.
use Rattle.std.specs.Prelude.{◌≡◌, ◌<◌, ℕ, zero, suc, List, [], ◌∷◌, ◌++◌, Bool, if◌then◌else◌, length, slice_index_or}
use Rattle.std.specs.Prelude.{Vec, vec_items, Option, Some, None, Result, Ok, Err, codes, decimal}
use Rattle.std.specs.List.{flat_map}
use Rattle.std.specs.Option.{unwrap_or}
use Rattle.std.specs.declared.alloc.Global.{Global}
use Rattle.lock_word.specs.declared.ObjectId.{ObjectId}
use Rattle.lock_word.specs.declared.ThreadId.{ThreadId}
use Rattle.lock_word.specs.declared.Split.{Split}
use Rattle.lock_word.specs.declared.Word.{Word}
use Rattle.lock_word.specs.Names.{word_text}
use Rattle.thread_index.specs.Indices.{index_of}
use Rattle.fat_monitor.specs.declared.actions.Answer.TheVariants.{Parked, Quiet, Reply as Replied}
use Rattle.fat_monitor.specs.declared.actions.Reply.{Reply}
use Rattle.fat_monitor.specs.Names.{action_name, cause_name, reply_name}
use Rattle.script_text.specs.Lines.{split_name}
use Rattle.step_core.specs.declared.steps.Atomic.{Atomic}
use Rattle.step_core.specs.declared.steps.Atomic.TheVariants.{Label, Load, Won, Lost, Stored, Bound, NotBound, Acted}
use Rattle.step_core.specs.declared.steps.Did.{Did}
use Rattle.step_core.specs.declared.steps.Fault.{Fault}
use Rattle.step_core.specs.declared.steps.Request.{Request}
use Rattle.step_core.specs.declared.steps.Request.TheVariants as request
use Rattle.step_core.specs.declared.steps.Step.{Step}
use Rattle.step_core.specs.declared.steps.Step.TheVariants.{Attach, Begin, Go, Expire, Spurious, Tick}
use Rattle.step_core.specs.declared.worlds.relayout.RelayoutFault.{RelayoutFault}
use Rattle.step_core.specs.Machine.{is_waiting}
use Rattle.step_core.specs.Names.{fault_name, fault_number, relayout_fault_name, relayout_fault_number}
use Rattle.step_core.specs.Relayout.{after_relayout}
use Rattle.step_core.specs.Requests.{world_then}
use Rattle.step_core.specs.Shown.{shown}
use Rattle.step_core.specs.Step.{step_of}
use Rattle.step_core.specs.World.{WorldState, word_at}
use Rattle.history.specs.NameLists.{NameLists, name_at}
use Rattle.history.specs.Histories.{first_world}
use Rattle.history.specs.Plays.{PlaysOne, Plays}
use Rattle.history.specs.declared.plans.Plan.{Plan}

-- ---- steps

unfoldable pub shown_word : Word → List ℕ
shown_word x = word_text x.0

-- the words before and after an exchange or a store
abbrev pub exchange_text : Word → Word → List ℕ
exchange_text x y = shown_word x ++ 32 ∷ shown_word y

-- what an atomic step did to the header words or the fat monitors
abbrev pub atomic_text : NameLists → Atomic → List ℕ
atomic_text names Label = []
atomic_text names (Load o x) = codes "load " ++ name_at names.objects o.0 ++ 32 ∷ word_text x.0
atomic_text names (Won o x y) = codes "won " ++ name_at names.objects o.0 ++ 32 ∷ exchange_text x y
atomic_text names (Lost o x) = codes "lost " ++ name_at names.objects o.0 ++ 32 ∷ word_text x.0
atomic_text names (Stored o x y) = codes "store " ++ name_at names.objects o.0 ++ 32 ∷ exchange_text x y
atomic_text names (Bound o m) = codes "bind " ++ name_at names.objects o.0 ++ 32 ∷ decimal m
atomic_text names (NotBound o c) = codes "nobind " ++ name_at names.objects o.0 ++ 32 ∷ cause_name c
atomic_text names (Acted action answer) = codes "act " ++ action_name action

-- where a call goes on: whether its thread is parked then
abbrev pub parked_text : Atomic → List ℕ
parked_text (Acted action Parked) = codes " = parked"
parked_text (Acted action Quiet) = []
parked_text (Acted action (Replied r)) = []
parked_text Label = []
parked_text (Load o x) = []
parked_text (Won o x y) = []
parked_text (Lost o x) = []
parked_text (Stored o x y) = []
parked_text (Bound o m) = []
parked_text (NotBound o c) = []

-- the end of the line of a `go`: the reply, where the call ended
abbrev pub ending_text : Option Reply → Atomic → List ℕ
ending_text (Some r) a = codes " = " ++ reply_name r
ending_text None a = parked_text a

-- the line of a step that was accepted, and left this world
abbrev pub did_text : NameLists → WorldState → Step → Did → List ℕ
did_text names w (Attach t) d =
    codes "attach " ++ name_at names.threads t.0 ++ codes " index "
    ++ decimal (unwrap_or (index_of w.berths t) 0) ++ 10 ∷ []
did_text names w (Begin t c) d = codes "begin " ++ name_at names.threads t.0 ++ 10 ∷ []
did_text names w (Go t) d =
    codes "go " ++ name_at names.threads t.0 ++ 32 ∷ atomic_text names d.atomic
    ++ ending_text d.reply d.atomic ++ 10 ∷ []
did_text names w (Expire t) d = codes "expire " ++ name_at names.threads t.0 ++ 10 ∷ []
did_text names w (Spurious t) d = codes "spurious " ++ name_at names.threads t.0 ++ 10 ∷ []
did_text names w (Tick now) d = codes "tick " ++ decimal now ++ 10 ∷ []

-- the line of a step that answered this, and left this world
abbrev pub step_text : NameLists → WorldState → Step → Result Did Fault → List ℕ
step_text names w s (Ok d) = did_text names w s d
step_text names w s (Err f) = codes "fault " ++ decimal (fault_number f) ++ 32 ∷ fault_name f ++ 10 ∷ []

-- the line of a relayout that answered this
abbrev pub relayout_text : Split → Result ℕ RelayoutFault → List ℕ
relayout_text split (Ok inflated) =
    codes "relayout " ++ split_name split ++ codes " inflated " ++ decimal inflated ++ 10 ∷ []
relayout_text split (Err f) =
    codes "fault " ++ decimal (relayout_fault_number f) ++ 32 ∷ relayout_fault_name f ++ 10 ∷ []

-- the line of a step or relayout in this world, with whether its growth is granted
abbrev pub request_text : NameLists → WorldState → (Request × Bool) → List ℕ
request_text names w (request.Step s, room) = step_text names (step_of room w s).after s (step_of room w s).answer
request_text names w (request.Relayout split, room) = relayout_text split (after_relayout room w split).answer

-- a line for each of them, each in the world that those before it left
abbrev pub requests_text : NameLists → WorldState → List (Request × Bool) → List ℕ
requests_text names w [] = []
requests_text names w (t ∷ ts) = request_text names w t ++ requests_text names (world_then w t) ts

-- A step or a relayout leads from the one world to the other, and its line was written behind what was there.
pub record ReportsOne (names : NameLists) (w : WorldState) (asked : Request) (v : WorldState)
    (old new : List ℕ) : Type 0 where
  pub does : PlaysOne w asked v
  pub text : new ≡ old ++ request_text names w (asked, does.room)

-- The same of all of them.
pub record Reports (names : NameLists) (w : WorldState) (steps : List Request) (v : WorldState)
    (old new : List ℕ) : Type 0 where
  pub plays : Plays w steps v
  pub text : new ≡ old ++ requests_text names w plays.done

-- ---- objects

-- the owner of an object, or `-`
abbrev pub owner_text : NameLists → Option ThreadId → List ℕ
owner_text names None = codes "-"
owner_text names (Some t) = name_at names.threads t.0

-- the thread, if it is in the wait set of the object with this number
abbrev pub waiter : WorldState → ℕ → ThreadId → List ThreadId
waiter w o t = if is_waiting ((shown w).thread t) (record { 0 = o }) then t ∷ [] else []

-- the threads with the numbers below n that are in its wait set, by rising number
abbrev pub waiters_below : WorldState → ℕ → ℕ → List ThreadId
waiters_below w o zero = []
waiters_below w o (suc n) = waiters_below w o n ++ waiter w o (record { 0 = n })

-- For each object the threads with the numbers below n that are in its wait set.
pub record AreWaitSets (w : WorldState) (n : ℕ) (sets : List (Vec ThreadId Global)) : Type 0 where
  pub long : length sets ≡ length w.words
  pub each : (o : ℕ) (d : Vec ThreadId Global) → o < length w.words
      → vec_items (slice_index_or sets o d) ≡ waiters_below w o n

-- This thread was added to the set in which it waits, if it waits.
pub record IsAdded (w : WorldState) (t : ThreadId) (old new : List (Vec ThreadId Global)) : Type 0 where
  pub long : length new ≡ length old
  pub each : (o : ℕ) (d : Vec ThreadId Global) → o < length old
      → vec_items (slice_index_or new o d) ≡ vec_items (slice_index_or old o d) ++ waiter w o t

-- some sets of no threads
pub record AreEmpty (count : ℕ) (sets : List (Vec ThreadId Global)) : Type 0 where
  pub long : length sets ≡ count
  pub each : (o : ℕ) (d : Vec ThreadId Global) → o < count → vec_items (slice_index_or sets o d) ≡ []

-- the names of some threads, each behind a comma
abbrev pub more_threads_text : NameLists → List ThreadId → List ℕ
more_threads_text names ts = flat_map (λ t. 44 ∷ name_at names.threads t.0) ts

-- their names between commas, or `-` where there is none
abbrev pub threads_text : NameLists → List ThreadId → List ℕ
threads_text names [] = codes "-"
threads_text names (t ∷ ts) = name_at names.threads t.0 ++ more_threads_text names ts

-- who owns an object, and how often
unfoldable pub standing_text : NameLists → WorldState → ObjectId → List ℕ
standing_text names w o =
    codes " owner " ++ owner_text names ((shown w).monitor o).owner ++ codes " holds "
    ++ decimal ((shown w).monitor o).count

-- the line of an object, in whose wait set these threads are
abbrev pub object_text : NameLists → WorldState → ObjectId → List ThreadId → List ℕ
object_text names w o waiting =
    codes "object " ++ name_at names.objects o.0 ++ 32 ∷ shown_word (word_at w o.0) ++ standing_text names w o
    ++ codes " waiting " ++ threads_text names waiting ++ 10 ∷ []

-- a line for each of the objects with the numbers below n
abbrev pub object_lines : NameLists → WorldState → ℕ → List ℕ
object_lines names w zero = []
object_lines names w (suc n) =
    object_lines names w n ++ object_text names w (record { 0 = n }) (waiters_below w n (length names.threads))

-- ---- the report of a script

-- The text is a line for each step and relayout, in order, and then one for each object of the world that they lead to.
pub record IsReportOf (plan : Plan) (report : List ℕ) : Type 0 where
  pub world : WorldState
  pub plays : Plays (first_world plan) plan.steps.items world
  pub text : report ≡ requests_text plan.names (first_world plan) plays.done
      ++ object_lines plan.names world (shown world).objects
