-- The numbers of a world: two worlds share them exactly where they are the same.
use Rattle.std.specs.Prelude.{ℕ, ◌+◌, List, [], ◌∷◌, ◌++◌, length, map, Option, Some, None, ℤ, pos, negsuc}
use Rattle.lock_word.specs.declared.ThreadId.{ThreadId}
use Rattle.lock_word.specs.declared.Word.{Word}
use Rattle.lock_word.specs.declared.Split.{Split}
use Rattle.lock_word.specs.declared.Split.TheVariants.{Wide, Deep}
use Rattle.lock_word.specs.declared.Lock.{Lock}
use Rattle.lock_word.specs.declared.Lock.TheVariants.{Free, Thin, Fat}
use Rattle.fat_monitor.specs.FatState.{FatState}
use Rattle.fat_monitor.specs.Numbers.{AreFlagged, truth_number, thread_numbers, fat_numbers}
use Rattle.fast_path.specs.declared.calls.Operation.{Operation}
use Rattle.fast_path.specs.declared.calls.Operation.TheVariants.{Enter, Exit, Wait, Notify, NotifyAll, Holds}
use Rattle.fast_path.specs.declared.calls.MonitorCall.{MonitorCall}
use Rattle.fast_path.specs.declared.calls.InterruptCall.{InterruptCall}
use Rattle.fast_path.specs.declared.calls.InterruptCall.TheVariants as about
use Rattle.step_core.specs.declared.places.Place.{Place}
use Rattle.step_core.specs.declared.places.Place.TheVariants.{Idle, InCall, Ending, AtPost}
use Rattle.step_core.specs.declared.places.Stage.{Stage}
use Rattle.step_core.specs.declared.places.Stage.TheVariants.{Begun, Taking, Storing, Binding, Acting, Won, Bound}
use Rattle.step_core.specs.declared.places.Stage.TheVariants.{Inflated, Direct}
use Rattle.step_core.specs.World.{WorldState}
use Rattle.step_core.specs.Sound.{IsSound}

abbrev pub split_number : Split → ℕ
split_number Wide = 0
split_number Deep = 1

-- whether a number is below 0, and how far it is from 0 or from -1
abbrev pub signed_numbers : ℤ → List ℕ
signed_numbers (pos n) = 0 ∷ n ∷ []
signed_numbers (negsuc n) = 1 ∷ n ∷ []

abbrev pub lock_numbers : Lock → List ℕ
lock_numbers Free = 0 ∷ 0 ∷ 0 ∷ []
lock_numbers (Thin i c) = 1 ∷ i ∷ c ∷ []
lock_numbers (Fat m) = 2 ∷ m ∷ 0 ∷ []

abbrev pub operation_numbers : Operation → List ℕ
operation_numbers Enter = 0 ∷ []
operation_numbers Exit = 1 ∷ []
operation_numbers (Wait millis nanos) = 2 ∷ (signed_numbers millis ++ signed_numbers nanos)
operation_numbers Notify = 3 ∷ []
operation_numbers NotifyAll = 4 ∷ []
operation_numbers Holds = 5 ∷ []

abbrev pub call_numbers : MonitorCall → List ℕ
call_numbers c = c.object.0 ∷ operation_numbers c.operation

abbrev pub interrupt_numbers : InterruptCall → List ℕ
interrupt_numbers (about.Interrupt t) = 0 ∷ t.0 ∷ []
interrupt_numbers about.Interrupted = 1 ∷ 0 ∷ []
interrupt_numbers (about.IsInterrupted t) = 2 ∷ t.0 ∷ []

abbrev pub stage_numbers : Stage → List ℕ
stage_numbers (Begun c contended) = 3 ∷ truth_number contended ∷ call_numbers c
stage_numbers (Taking o contended) = 4 ∷ truth_number contended ∷ o.0 ∷ []
stage_numbers (Storing c l) = 5 ∷ (lock_numbers l ++ call_numbers c)
stage_numbers (Binding c n) = 6 ∷ n ∷ call_numbers c
stage_numbers (Acting c m) = 7 ∷ m ∷ call_numbers c
stage_numbers (Won o) = 8 ∷ o.0 ∷ []
stage_numbers (Bound c won m) = 9 ∷ truth_number won ∷ m ∷ call_numbers c
stage_numbers (Inflated c m) = 10 ∷ m ∷ call_numbers c
stage_numbers (Direct c) = 11 ∷ interrupt_numbers c

abbrev pub place_numbers : Place → List ℕ
place_numbers Idle = 0 ∷ []
place_numbers AtPost = 1 ∷ []
place_numbers (Ending n) = 2 ∷ n ∷ []
place_numbers (InCall s) = stage_numbers s

-- who has a berth: 0 where nobody has it, and else the thread with its flag and its post
abbrev pub holder_numbers : FatState → Option ThreadId → List ℕ
holder_numbers f None = 0 ∷ []
holder_numbers f (Some t) = (t.0 + 1) ∷ thread_numbers f t

-- each berth with its place
abbrev pub berths_numbers : FatState → List (Option ThreadId) → List Place → List ℕ
berths_numbers f [] ps = []
berths_numbers f (h ∷ hs) [] = []
berths_numbers f (h ∷ hs) (p ∷ ps) = holder_numbers f h ++ (place_numbers p ++ berths_numbers f hs ps)

abbrev pub words_numbers : List Word → List ℕ
words_numbers words = map (λ (x : Word). x.0) words

abbrev pub numbers_of : WorldState → List ℕ
numbers_of w =
    split_number w.split ∷ length w.words ∷ length w.berths
    ∷ (words_numbers w.words ++ (berths_numbers w.fats w.berths w.places ++ fat_numbers w.fats))

-- what holds of every world, and the numbers rest on
pub record IsNumbered (w : WorldState) : Type 0 where
  pub sound : IsSound w
  pub flagged : AreFlagged w.fats
