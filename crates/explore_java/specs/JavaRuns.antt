-- The runs of the Java machine that a program may make, and their outcomes.
use Rattle.std.specs.Prelude.{◌≡◌, ℕ, zero, suc, ◌-◌, ◌<◌, ◌==◌, Bool, true, false}
use Rattle.std.specs.Prelude.{if◌then◌else◌, List, [], ◌∷◌, ◌++◌, length}
use Rattle.std.specs.Prelude.{map, take, drop, slice_get, slice_index_or, Option, Some, None, IfSome}
use Rattle.std.specs.List.{filter_map}
use Rattle.lock_word.specs.declared.ObjectId.{ObjectId}
use Rattle.lock_word.specs.declared.ThreadId.{ThreadId}
use Rattle.fat_monitor.specs.declared.actions.Reply.{Reply}
use Rattle.fast_path.specs.declared.calls.Call.{Call}
use Rattle.fast_path.specs.declared.calls.Call.TheVariants as call
use Rattle.step_core.specs.declared.machine.Doing.{Doing}
use Rattle.step_core.specs.declared.machine.Doing.TheVariants as doing
use Rattle.step_core.specs.declared.machine.Move.{Move}
use Rattle.step_core.specs.declared.machine.Move.TheVariants as move
use Rattle.step_core.specs.Machine.{Run, State, Steps, opening}
use Rattle.explore.specs.declared.programs.Program.{Program}
use Rattle.explore.specs.States.{end_of, start_of, thread_of}
use Rattle.jls_check.specs.MachineState.{state}
use Rattle.explore_java.specs.JavaStates.{JavaProgramState, is_want, replies_of}

-- the low bytes of objects are bytes
abbrev pub AreBytes : List ℕ → Type 0
AreBytes lows = (k : ℕ) → slice_index_or lows k 0 < 256

-- ---- what is in a run

-- the thread that a move attaches
abbrev pub attached_by : Move → Option ThreadId
attached_by (move.Attach t) = Some t
attached_by m = None

-- the call that thread t makes by a move, and the reply with which a call of t returns
abbrev pub called_by : ThreadId → Move → Option Call
called_by t (move.Call u c) = if u.0 == t.0 then Some c else None
called_by t m = None

abbrev pub returned_by : ThreadId → Move → Option Reply
returned_by t (move.Return u r) = if u.0 == t.0 then Some r else None
returned_by t m = None

-- the moment that a move tells
abbrev pub told_by : Move → Option ℕ
told_by (move.Time now) = Some now
told_by m = None

-- the thread whose wait ends for no reason
abbrev pub woken_by : Move → Option ThreadId
woken_by (move.Spurious t) = Some t
woken_by m = None

-- and of all moves of a run, one after the other
abbrev pub attached_in : List Move → List ThreadId
attached_in ms = filter_map attached_by ms

abbrev pub calls_in : ThreadId → List Move → List Call
calls_in t ms = filter_map (called_by t) ms

abbrev pub returns_in : ThreadId → List Move → List Reply
returns_in t ms = filter_map (returned_by t) ms

abbrev pub moments_in : List Move → List ℕ
moments_in ms = filter_map told_by ms

abbrev pub woken_in : List Move → List ThreadId
woken_in ms = filter_map woken_by ms

-- ---- what a program leaves open

-- the threads of a program, in their order
abbrev pub threads_below : ℕ → List ThreadId
threads_below zero = []
threads_below (suc n) = threads_below n ++ thread_of n ∷ []

-- the calls of thread k of a program, in their order
abbrev pub calls_of : Program → ℕ → List Call
calls_of p k = take (end_of p k - start_of p k) (drop (start_of p k) p.calls.items)

-- the first list is a front of the second
abbrev pub IsFront : {A : Type 0} → List A → List A → Type 0
IsFront xs ys = xs ≡ take (length xs) ys

-- the first moves attach these threads, each once and in their order, and no other move attaches any
abbrev pub BeginsWithAttaches : List ThreadId → List Move → Type 0
BeginsWithAttaches ts ms = (rest : List Move) × (ms ≡ map (λ t. move.Attach t) ts ++ rest) × (attached_in rest ≡ [])

-- A run of the machine that the program may make. Its threads are attached before anything else, in their order, each
-- once, and nothing else ever. Each makes its own calls in their order, from the first on, and skips none; so does the
-- clock tell the program's moments. No wait ends for no reason, unless the program says that it may.
pub record IsRunOf (p : Program) (ms : List Move) (x : State) : Type 0 where
  pub run : Run (opening (length p.lows.items)) ms x
  pub attaches : BeginsWithAttaches (threads_below (length p.starts.items)) ms
  pub calls : (k : ℕ) → k < length p.starts.items → IsFront (calls_in (thread_of k) ms) (calls_of p k)
  pub moments : IsFront (moments_in ms) p.moments.items
  pub woken : p.spurious ≡ false → woken_in ms ≡ []

-- the moves that the program leaves to the machine behind these: the next call of each thread; a wake-up for no reason
-- where the program says so; the next moment of the clock; and any other move but an attach, refusals for want among
-- them
abbrev pub IsLeft : Program → List Move → Move → Type 0
IsLeft p ms (move.Attach t) = ⊥
IsLeft p ms (move.Call t c) =
    (t.0 < length p.starts.items) × (slice_get (calls_of p t.0) (length (calls_in t ms)) ≡ Some c)
IsLeft p ms (move.Spurious t) = p.spurious ≡ true
IsLeft p ms (move.Time now) = slice_get p.moments.items (length (moments_in ms)) ≡ Some now
IsLeft p ms m = Unit {0}

-- An outcome of the machine: a run of the program behind which the machine can make no move that is left to it.
pub record IsOutcomeOf (p : Program) (ms : List Move) (x : State) : Type 0 where
  pub of : IsRunOf p ms x
  pub stuck : (m : Move) (y : State) → IsLeft p ms m → Steps x m y → ⊥

-- ---- who is stuck

-- another thread than t owns the object
abbrev pub IsBlocked : State → ThreadId → ObjectId → Type 0
IsBlocked x t o = (u : ThreadId) × ((x.monitor o).owner ≡ Some u) × (u ≡ t → ⊥)

-- What thread t may be doing where the machine is stuck: nothing; waiting to be notified, where its time is not over
-- and no wait ends for no reason; or wanting an object that another thread owns, to enter it or to come back to it.
abbrev pub Rests : Program → State → ThreadId → Doing → Type 0
Rests p x t doing.Idle = Unit {0}
Rests p x t (doing.Wants c) = (o : ObjectId) × (c ≡ call.Enter o) × IsBlocked x t o
Rests p x t (doing.Waits o n d) = IfSome d (λ over. x.moment < over) × (p.spurious ≡ true → ⊥)
Rests p x t (doing.Back o n why) = IsBlocked x t o
Rests p x t (doing.Has r) = ⊥

-- ---- what the machine itself does

-- a refusal for want of a monitor or of memory: the machine allows it, and the Java specification knows nothing of it
abbrev pub is_for_want : Move → Bool
is_for_want (move.Refuse t c) = is_want c
is_for_want m = false

-- none of these moves is such a refusal
abbrev pub NoneForWant : List Move → Type 0
NoneForWant [] = Unit {0}
NoneForWant (m ∷ ms) = (is_for_want m ≡ false) × NoneForWant ms

-- the moves by which the threads of a program are attached
abbrev pub attaches_of : Program → List Move
attaches_of p = map (λ t. move.Attach t) (threads_below (length p.starts.items))

-- the state shows what these moves lead to: the machine, and the replies with which the calls of each thread return
pub record Shows (p : Program) (ms : List Move) (x : State) (t : JavaProgramState) : Type 0 where
  pub machine : state t.machine ≡ x
  pub replies : (k : ℕ) → k < length p.starts.items → returns_in (thread_of k) ms ≡ replies_of p t k
