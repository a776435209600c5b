-- A change between the splits of a header word, in a world at rest: each thin lock whose count does not fit is
-- inflated, and then every word is written anew.
use Rattle.std.specs.Prelude.{ℕ, zero, suc, ◌+◌, ◌≡◌, Bool, true, false, if◌then◌else◌, not, nat_lt, ◌||◌, map}
use Rattle.std.specs.Prelude.{count_by, length, slice_set, Option, Some, None, Result, Ok, Err}
use Rattle.lock_word.specs.declared.ThreadId.{ThreadId}
use Rattle.lock_word.specs.declared.Word.{Word}
use Rattle.lock_word.specs.declared.Lock.{Lock}
use Rattle.lock_word.specs.declared.Lock.TheVariants.{Free, Thin, Fat}
use Rattle.lock_word.specs.declared.Split.{Split}
use Rattle.lock_word.specs.declared.Split.TheVariants.{Wide, Deep}
use Rattle.lock_word.specs.Layout.{lock_of, with_lock, greatest_index, greatest_count}
use Rattle.thread_index.specs.Indices.{holder_at}
use Rattle.fat_monitor.specs.FatState.{bound_with, with_spare}
use Rattle.step_core.specs.declared.machine.Doing.{Doing}
use Rattle.step_core.specs.declared.machine.Doing.TheVariants as doing
use Rattle.step_core.specs.declared.worlds.relayout.RelayoutFault.{RelayoutFault}
use Rattle.step_core.specs.declared.worlds.relayout.RelayoutFault.TheVariants as fault
use Rattle.step_core.specs.Machine.{State, Thread, Is}
use Rattle.step_core.specs.World.{WorldState, lock_at}
use Rattle.step_core.specs.Shown.{shown, monitor_of}
use Rattle.step_core.specs.Go.{new_word}

-- a thread that is in no call, or waits, or is back from a wait set, is at rest
abbrev pub is_resting : Doing → Bool
is_resting doing.Idle = true
is_resting (doing.Wants c) = false
is_resting (doing.Waits o n d) = true
is_resting (doing.Back o n w) = true
is_resting (doing.Has r) = false

-- every live thread is at rest
abbrev pub IsAtRest : State → Type 0
IsAtRest s = (t : ThreadId) (flag : Bool) (d : Doing) → Is s t flag d → is_resting d ≡ true

-- whether the holder of an index is at rest; nobody is
abbrev pub rests_as : Option Thread → Bool
rests_as None = true
rests_as (Some x) = is_resting x.act

abbrev pub holder_rests : State → Option ThreadId → Bool
holder_rests s None = true
holder_rests s (Some t) = rests_as (s.thread t)

-- whether the threads at the berths below k are at rest
abbrev pub rest_below : WorldState → ℕ → Bool
rest_below w zero = true
rest_below w (suc k) = if rest_below w k then holder_rests (shown w) (holder_at w.berths k) else false

abbrev pub is_at_rest : WorldState → Bool
is_at_rest w = rest_below w (length w.berths)

-- the count of a thin lock does not fit the split
abbrev pub is_too_deep : Split → Lock → Bool
is_too_deep s Free = false
is_too_deep s (Thin i n) = nat_lt (greatest_count s) n
is_too_deep s (Fat m) = false

-- the lock of this word does not fit
abbrev pub is_deep_word : Split → Split → Word → Bool
is_deep_word old s x = is_too_deep s (lock_of old x.0)

-- how many locks of the world do not fit
abbrev pub deep_in : Split → WorldState → ℕ
deep_in s w = count_by (is_deep_word w.split s) w.words

-- object p, which this thread holds n times, gets the next fat monitor with its owner and holds, and its fat word
abbrev pub inflated_for : WorldState → ℕ → ℕ → Option ThreadId → WorldState
inflated_for w p n None = w
inflated_for w p n (Some t) = record w {
  words = slice_set w.words p (new_word w (record { 0 = p }) (Fat (length w.fats.monitors)));
  fats = bound_with w.fats (record { 0 = p }) t n;
}

-- the same where its lock does not fit
abbrev pub inflated_at : Split → WorldState → ℕ → WorldState
inflated_at s w p =
    if is_too_deep s (lock_at w p)
    then inflated_for w p (monitor_of w (lock_at w p)).count (monitor_of w (lock_at w p)).owner
    else w

-- and so with each object below p, in order
abbrev pub inflated_below : Split → WorldState → ℕ → WorldState
inflated_below s w zero = w
inflated_below s w (suc p) = inflated_at s (inflated_below s w p) p

abbrev pub is_same_split : Split → Split → Bool
is_same_split Wide Wide = true
is_same_split Wide Deep = false
is_same_split Deep Wide = false
is_same_split Deep Deep = true

-- the word that shows the same lock and low byte in the split s
abbrev pub word_in : Split → Split → Word → Word
word_in old s x = record { 0 = with_lock s x.0 (lock_of old x.0) }

-- every word is written in the split s
abbrev pub respelled : Split → WorldState → WorldState
respelled s w = record w { split = s; words = map (word_in w.split s) w.words }

-- there is room for the binds to come
abbrev pub roomy : Split → WorldState → WorldState
roomy s w = record w { fats = with_spare w.fats (deep_in s w) }

abbrev pub relaid : Split → WorldState → WorldState
relaid s w = respelled s (inflated_below s (roomy s w) (length w.words))

-- the answer of a relayout, which is how many objects were inflated, and the world after it
pub record AfterRelayout : Type 0 where
  pub answer : Result ℕ RelayoutFault
  pub after : WorldState

abbrev pub relayout_refused : WorldState → RelayoutFault → AfterRelayout
relayout_refused w f = record { answer = Err f; after = w }

-- Faults come in this order. Memory is asked for where the monitors to be bound have no room yet; room says whether
-- it is granted. To the split that it has, a world at rest stays as it is.
abbrev pub after_relayout : Bool → WorldState → Split → AfterRelayout
after_relayout room w s =
    if not (is_at_rest w) then relayout_refused w fault.NotAtRest
    else (if is_same_split s w.split then record { answer = Ok 0; after = w }
    else (if nat_lt (greatest_index s) (length w.berths) then relayout_refused w fault.IndexTooWide
    else (if nat_lt w.fats.limit (length w.fats.monitors + deep_in s w) then relayout_refused w fault.NoMonitor
    else (if room || not (nat_lt w.fats.spare (deep_in s w))
    then record { answer = Ok (deep_in s w); after = relaid s w }
    else relayout_refused w fault.Memory))))
