-- Cycles of owners: threads each of which waits for an object that the next one owns.
use Rattle.std.specs.Prelude.{◌≡◌, ℕ, ◌<◌, ◌==◌, if◌then◌else◌, List, [], ◌∷◌, Option, Some, None}
use Rattle.std.specs.List.{AllByRecursion, Contains}
use Rattle.lock_word.specs.declared.ThreadId.{ThreadId}
use Rattle.lock_word.specs.declared.ObjectId.{ObjectId}
use Rattle.fast_path.specs.declared.calls.Call.{Call}
use Rattle.fast_path.specs.declared.calls.Call.TheVariants as call
use Rattle.step_core.specs.declared.machine.Doing.{Doing}
use Rattle.step_core.specs.declared.machine.Doing.TheVariants.{Wants, Back}
use Rattle.step_core.specs.Machine.{State, Thread}

-- ---- for whom a thread waits

-- the object that a call is to enter
abbrev pub object_entered : Call → Option ObjectId
object_entered (call.Enter o) = Some o
object_entered c = None

-- the object that a thread with this act wants to enter, or comes back to
abbrev pub object_wanted : Doing → Option ObjectId
object_wanted (Wants c) = object_entered c
object_wanted (Back o n w) = Some o
object_wanted d = None

abbrev pub wanted_by : Option Thread → Option ObjectId
wanted_by None = None
wanted_by (Some x) = object_wanted x.act

-- the owner of an object, where that is another thread than t
abbrev pub other_than : ThreadId → Option ThreadId → Option ThreadId
other_than t None = None
other_than t (Some u) = if u.0 == t.0 then None else Some u

abbrev pub owner_but : State → ThreadId → Option ObjectId → Option ThreadId
owner_but s t None = None
owner_but s t (Some o) = other_than t (s.monitor o).owner

-- the next of t: the owner of the object that t wants to enter or comes back to, where that is another thread
abbrev pub next : State → ThreadId → Option ThreadId
next s t = owner_but s t (wanted_by (s.thread t))

-- ---- cycles, of threads or of whatever else has a next one and a number

-- the first of the list is the next of a, each other the next of the one before, and b is the next of the last
abbrev pub LeadsThrough : {A : Type 0} → (A → Option A) → A → List A → A → Type 0
LeadsThrough f a [] b = f a ≡ Some b
LeadsThrough f a (x ∷ xs) b = (f a ≡ Some x) × LeadsThrough f x xs b

abbrev pub AreDistinct : {A : Type 0} → List A → Type 0
AreDistinct [] = Unit {0}
AreDistinct (x ∷ xs) = AllByRecursion (λ y. x ≡ y → ⊥) xs × AreDistinct xs

-- each is the next of the one before, and the first the next of the last; they are distinct, and the first is the
-- lowest
abbrev pub IsCycleOf : {A : Type 0} → (A → ℕ) → (A → Option A) → List A → Type 0
IsCycleOf number f [] = ⊥
IsCycleOf number f (a ∷ rest) =
    LeadsThrough f a rest a × AreDistinct (a ∷ rest) × AllByRecursion (λ b. number a < number b) rest

-- the number of the first of a list
abbrev pub first_number : {A : Type 0} → (A → ℕ) → List A → ℕ
first_number number [] = 0
first_number number (a ∷ rest) = number a

abbrev pub AscendByFirst : {A : Type 0} → (A → ℕ) → List (List A) → Type 0
AscendByFirst number [] = Unit {0}
AscendByFirst number (c ∷ cs) =
    AllByRecursion (λ d. first_number number c < first_number number d) cs × AscendByFirst number cs

-- exactly the cycles, by their lowest
pub record AreCyclesOf {A : Type 0} (number : A → ℕ) (f : A → Option A) (lists : List (List A)) : Type 0 where
  pub sound : AllByRecursion (IsCycleOf number f) lists
  pub complete : (c : List A) → IsCycleOf number f c → Contains lists c
  pub order : AscendByFirst number lists

-- ---- the cycles of owners of a state

abbrev pub IsCycle : State → List ThreadId → Type 0
IsCycle s c = IsCycleOf (λ (t : ThreadId). t.0) (next s) c

abbrev pub AreCycles : State → List (List ThreadId) → Type 0
AreCycles s lists = AreCyclesOf (λ (t : ThreadId). t.0) (next s) lists
