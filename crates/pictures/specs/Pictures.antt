-- Which picture a list of columns has.
use Rattle.std.specs.Prelude.{◌≡◌, ◌⊎◌, ℕ, ◌+◌, ◌<◌, ◌≤◌, ◌^◌, List, [], ◌∷◌, ◌++◌, length}
use Rattle.std.specs.Prelude.{Option, Some, None, Vec, vec_items}
use Rattle.std.specs.Prelude.{map as list_map}
use Rattle.std.specs.List.{flat_map, Contains}
use Rattle.std.specs.List.Sorted.{IsStrictlyIncreasing}
use Rattle.std.specs.declared.alloc.Global.{Global}
use Rattle.lock_word.specs.declared.ThreadId.{ThreadId}
use Rattle.lock_word.specs.declared.ObjectId.{ObjectId}
use Rattle.lock_word.specs.declared.Word.{Word}
use Rattle.fast_path.specs.Calls.{object_of}
use Rattle.step_core.specs.declared.machine.Doing.{Doing}
use Rattle.step_core.specs.declared.machine.Doing.TheVariants.{Wants, Waits, Back}
use Rattle.step_core.specs.declared.machine.Move.{Move}
use Rattle.step_core.specs.declared.machine.Move.TheVariants as move
use Rattle.step_core.specs.Cycles.{AreCycles}
use Rattle.step_core.specs.Machine.{State, Thread, Steps, Run, opening}
use Rattle.owner_cycles.specs.Rows.{IsIn}
use Rattle.owner_cycles.specs.Threads.{Ascend, IsLive}
use Rattle.jls_check.specs.MachineState.{state}
use Rattle.pictures.specs.declared.columns.Column.{Column}
use Rattle.pictures.specs.declared.picture.Arrow.{Arrow}
use Rattle.pictures.specs.declared.order.Cast.{Cast}
use Rattle.pictures.specs.declared.picturing.Film.{Film}
use Rattle.pictures.specs.declared.picture.Lane.{Lane}
use Rattle.pictures.specs.declared.picture.Picture.{Picture}
use Rattle.pictures.specs.declared.picture.Strip.{Strip}
use Rattle.pictures.specs.Arrows.{Follow, hand_overs}
use Rattle.pictures.specs.Marks.{moves_in, call_marks, reply_marks, moment_marks, refusal_marks}
use Rattle.pictures.specs.Spans.{covered, strip_covered, strip_words, said_of, kept_of, words_told}

-- the moves of some columns
abbrev pub all_moves : List Column → List Move
all_moves cs = flat_map moves_in cs

-- Columns, and others in front of them, are a run of the machine with so many objects.
abbrev pub IsRun : ℕ → List Column → List Column → Type 0
IsRun n front cs = (s : State) × Run (opening n) (all_moves front ++ all_moves cs) s

-- the moves are a run from s on
abbrev pub CanRun : State → List Move → Type 0
CanRun s ms = (end : State) × Run s ms end

-- the move, if it is there, leads from s to s'
abbrev pub Makes : State → Option Move → State → Type 0
Makes s None s' = s' ≡ s
Makes s (Some m) s' = Steps s m s'

-- the number of the thread that a move attaches, if it is there and attaches one
abbrev pub attached : Option Move → List ℕ
attached (Some (move.Attach t)) = t.0 ∷ []
attached m = []

abbrev pub number_of : Option ObjectId → List ℕ
number_of None = []
number_of (Some o) = o.0 ∷ []

-- the number of the object that a move's call names, if it names one
abbrev pub named : Option Move → List ℕ
named (Some (move.Call t c)) = number_of (object_of c)
named m = []

abbrev pub all_attached : List Column → List ℕ
all_attached cs = flat_map (λ (c : Column). flat_map attached c.moves) cs

abbrev pub all_named : List Column → List ℕ
all_named cs = flat_map (λ (c : Column). flat_map named c.moves) cs

-- ---- what is drawn

-- the number of a thread, if it is live
abbrev pub live_number : ℕ → Option Thread → List ℕ
live_number n None = []
live_number n (Some x) = n ∷ []

-- those of some numbers that are of live threads
abbrev pub all_live : State → List ℕ → List ℕ
all_live s numbers = flat_map (λ n. live_number n (s.thread (record { 0 = n }))) numbers

-- the object that an act names
abbrev pub object_of_act : Doing → Option ObjectId
object_of_act (Wants c) = object_of c
object_of_act (Waits o n d) = Some o
object_of_act (Back o n w) = Some o
object_of_act act = None

-- the number of the object that a thread's act names
abbrev pub used_number : Option Thread → List ℕ
used_number None = []
used_number (Some x) = number_of (object_of_act x.act)

-- the same of the threads with some numbers
abbrev pub all_used : State → List ℕ → List ℕ
all_used s numbers = flat_map (λ n. used_number (s.thread (record { 0 = n }))) numbers

-- the number of an object, if it has an owner
abbrev pub owned_number : ℕ → Option ThreadId → List ℕ
owned_number n None = []
owned_number n (Some t) = n ∷ []

-- those of some numbers that are of objects with an owner
abbrev pub all_owned : State → List ℕ → List ℕ
all_owned s numbers = flat_map (λ n. owned_number n (s.monitor (record { 0 = n })).owner) numbers

-- The threads that have lanes: those that are live in the state before the columns, of which each was attached in
-- the front, and those that are attached in some column.
abbrev pub lane_numbers : State → List Column → List Column → List ℕ
lane_numbers s front cs = all_live s (all_attached front) ++ all_attached cs

-- The objects that have strips: those that an act of a thread names in the state before the columns, those that have
-- an owner then, of which each was named by a call in the front, and those that a call in some column names.
abbrev pub strip_numbers : State → List Column → List Column → List ℕ
strip_numbers s front cs = (all_used s (all_attached front) ++ all_owned s (all_named front)) ++ all_named cs

-- these numbers in order, each once
pub record AreInOrder (numbers ordered : List ℕ) : Type 0 where
  pub rises : IsStrictlyIncreasing ordered
  pub keeps : (n : ℕ) → Contains numbers n → Contains ordered n
  pub adds_none : (n : ℕ) → Contains ordered n → Contains numbers n

abbrev pub threads_numbered : List ℕ → List ThreadId
threads_numbered numbers = list_map (λ n. record { 0 = n }) numbers

-- a lane says of its thread what each state says, and has its calls and replies
pub record IsLane (cs : List Column) (states : List State) (t : ThreadId) (l : Lane) : Type 0 where
  pub thread : l.thread ≡ t
  pub spans : covered l.spans.items ≡ list_map (said_of t) states
  pub calls : l.calls.items ≡ call_marks t 0 cs
  pub replies : l.replies.items ≡ reply_marks t 0 cs

-- one for each thread
abbrev pub AreLanes : List Column → List State → List ThreadId → List Lane → Type 0
AreLanes cs states [] [] = Unit {0}
AreLanes cs states [] (l ∷ ls) = ⊥
AreLanes cs states (t ∷ ts) [] = ⊥
AreLanes cs states (t ∷ ts) (l ∷ ls) = IsLane cs states t l × AreLanes cs states ts ls

-- The strip at position k says of its object what each state says, and has the words that are told of it.
pub record IsStrip (words : List (Vec Word Global)) (k : ℕ) (states : List State) (o : ℕ) (p : Strip) : Type 0 where
  pub object : p.object ≡ record { 0 = o }
  pub spans : strip_covered p.spans.items ≡ list_map (kept_of (record { 0 = o })) states
  pub words_are : strip_words p.spans.items ≡ words_told words k 0 states

-- one for each object, the first at position k
abbrev pub AreStrips : List (Vec Word Global) → ℕ → List State → List ℕ → List Strip → Type 0
AreStrips words k states [] [] = Unit {0}
AreStrips words k states [] (p ∷ ps) = ⊥
AreStrips words k states (o ∷ os) [] = ⊥
AreStrips words k states (o ∷ os) (p ∷ ps) = IsStrip words k states o p × AreStrips words (k + 1) states os ps

-- a strip before the first column
pub record IsOpenStrip (o : ℕ) (p : Strip) : Type 0 where
  pub object : p.object ≡ record { 0 = o }
  pub empty : p.spans.items ≡ []

abbrev pub AreOpenStrips : List ℕ → List Strip → Type 0
AreOpenStrips [] [] = Unit {0}
AreOpenStrips [] (p ∷ ps) = ⊥
AreOpenStrips (o ∷ os) [] = ⊥
AreOpenStrips (o ∷ os) (p ∷ ps) = IsOpenStrip o p × AreOpenStrips os ps

-- what the strips hand over
abbrev pub all_hand_overs : List Strip → List Arrow
all_hand_overs strips = flat_map (λ (p : Strip). hand_overs None 0 p.spans.items) strips

-- the state behind the last column
abbrev pub last_state : State → List State → State
last_state s [] = s
last_state s (t ∷ ts) = last_state t ts

-- The states behind the columns, of which the first comes from s; what the moves tell of notifies and interrupts; and
-- the lanes and strips.
pub record IsFilm (s : State) (cs : List Column) (threads : List ThreadId) (drawn : List ℕ)
    (words : List (Vec Word Global)) (f : Film) : Type 0 where
  pub states : List State
  pub follow : Follow threads 0 s cs states f.arrows.items
  pub lanes : AreLanes cs states threads f.lanes.items
  pub strips : AreStrips words 0 states drawn f.strips.items
  pub last : state f.machine ≡ last_state s states

-- each strip has fewer columns than numbers of 32 bits count
abbrev pub AreShort : List Strip → Type 0
AreShort [] = Unit {0}
AreShort (p ∷ ps) = (length (strip_covered p.spans.items) < 2 ^ 32) × AreShort ps

-- The picture of columns that are a run of a machine with so many objects, where others are in front of them; and of
-- the header words behind them, if they are told.
pub record IsPicture (objects : ℕ) (front cs : List Column) (words : List (Vec Word Global))
    (p : Picture) : Type 0 where
  -- the state before the first column
  pub start : State
  pub reached : Run (opening objects) (all_moves front) start
  -- the threads and the objects that are drawn
  pub threads : List ℕ
  pub are_threads : AreInOrder (lane_numbers start front cs) threads
  pub drawn : List ℕ
  pub are_drawn : AreInOrder (strip_numbers start front cs) drawn
  -- the states behind the columns, and what the moves tell of notifies and interrupts
  pub states : List State
  pub told : List Arrow
  pub follow : Follow (threads_numbered threads) 0 start cs states told
  pub lanes : AreLanes cs states (threads_numbered threads) p.lanes.items
  pub strips : AreStrips words 0 states drawn p.strips.items
  pub arrows : p.arrows.items ≡ told ++ all_hand_overs p.strips.items
  pub moments : p.moments.items ≡ moment_marks 0 cs
  pub refusals : p.refusals.items ≡ refusal_marks 0 cs
  pub first : p.first ≡ length front + 1
  pub columns : p.columns ≡ length cs
  -- the cycles of owners behind the last column
  pub cycles : AreCycles (last_state start states) (list_map vec_items p.cycles.items)

-- it has at most so many columns, lanes and strips
pub record IsWithin (p : Picture) : Type 0 where
  pub columns : p.columns ≤ 20000
  pub lanes : length p.lanes.items ≤ 200
  pub strips : length p.strips.items ≤ 200
  pub cycles : length p.cycles.items ≤ 200

-- they have more threads, or more objects, than a picture has lanes or strips
pub record HasManyLanes (s : State) (front cs : List Column) : Type 0 where
  pub numbers : List ℕ
  pub are : AreInOrder (lane_numbers s front cs) numbers ⊎ AreInOrder (strip_numbers s front cs) numbers
  pub many : 200 < length numbers

-- and so it is behind the columns in front
abbrev pub HasTooManyLanes : ℕ → List Column → List Column → Type 0
HasTooManyLanes objects front cs =
    (s : State) × Run (opening objects) (all_moves front) s × HasManyLanes s front cs

-- more cycles of owners than a picture has lanes
pub record HasManyCycles (s : State) : Type 0 where
  pub cycles : List (List ThreadId)
  pub exact : AreCycles s cycles
  pub many : 200 < length cycles

-- and so it is behind the last column
abbrev pub HasTooManyCycles : ℕ → List Column → List Column → Type 0
HasTooManyCycles objects front cs =
    (s : State) × Run (opening objects) (all_moves front ++ all_moves cs) s × HasManyCycles s

-- all live threads, and maybe others, by rising number
pub record AreAllLive (s : State) (threads : List ThreadId) : Type 0 where
  pub rising : Ascend threads
  pub all : (t : ThreadId) → IsLive s t → IsIn t threads

-- which threads and objects are drawn
pub record IsCast (s : State) (front cs : List Column) (c : Cast) : Type 0 where
  pub threads : AreInOrder (lane_numbers s front cs) c.threads.items
  pub objects : AreInOrder (strip_numbers s front cs) c.objects.items
  pub few_threads : length c.threads.items ≤ 200
  pub few_objects : length c.objects.items ≤ 200

-- the objects that have strips
abbrev pub AreDrawn : ℕ → List Column → List Column → List ℕ → Type 0
AreDrawn objects front cs drawn =
    (s : State) × Run (opening objects) (all_moves front) s × AreInOrder (strip_numbers s front cs) drawn
