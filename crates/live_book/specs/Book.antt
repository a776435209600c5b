-- What contracts see of a book, what its methods answer, and what always holds of it.
use Rattle.std.specs.Prelude.{ℕ, ◌+◌, ◌-◌, ◌≤◌, ◌↔◌, Bool, true, not, ◌&&◌, ◌||◌, if◌then◌else◌, nat_lt, List, [], ◌∷◌, ◌++◌, length, Option, Some, None, Result, Ok, Err}
use Rattle.lock_word.specs.declared.ThreadId.{ThreadId}
use Rattle.lock_word.specs.declared.ObjectId.{ObjectId}
use Rattle.fat_monitor.specs.declared.actions.Action.{Action}
use Rattle.fat_monitor.specs.declared.actions.Answer.{Answer}
use Rattle.fat_monitor.specs.declared.actions.Done.{Done}
use Rattle.fat_monitor.specs.declared.actions.ActFault.{ActFault}
use Rattle.fat_monitor.specs.declared.actions.ActFault.TheVariants as act_fault
use Rattle.fat_monitor.specs.declared.actions.Post.{Post}
use Rattle.fat_monitor.specs.declared.actions.Post.TheVariants.{Out, Entering, Waiting, Back, Granted}
use Rattle.fat_monitor.specs.Binding.{Binding}
use Rattle.fat_monitor.specs.FatState.{FatState, IsSound, IsAttached, post_of, objects_of, with_moment, bound_with}
use Rattle.fat_monitor.specs.Acting.{outcome_of}
use Rattle.live_book.specs.declared.deeds.Deed.{Deed}
use Rattle.live_book.specs.declared.deeds.Deed.TheVariants.{Bound, Acted, Ticked}
use Rattle.live_book.specs.declared.deeds.Logged.{Logged}
use Rattle.live_book.specs.declared.faults.BookFault.{BookFault}
use Rattle.live_book.specs.declared.faults.BookFault.TheVariants as fault
use Rattle.live_book.specs.Log.{IsThreadOf, Replays, nothing_bound}
use Rattle.live_book.specs.Places.{kept_of, need}

-- the fat state, the record, how many passes there are, and how many places the record has
pub record BookState : Type 0 where
  pub fats : FatState
  pub log : List Logged
  pub passes : ℕ
  pub places : ℕ

-- the book at the start
abbrev pub opening_book : ℕ → ℕ → ℕ → BookState
opening_book monitors passes places =
    record { fats = nothing_bound passes monitors; log = []; passes = passes; places = places }

-- the objects of the bound monitors, by number
abbrev pub bindings : BookState → List ObjectId
bindings b = objects_of b.fats

-- the places that are neither used nor kept
abbrev pub free_of : BookState → ℕ
free_of b = b.places - length b.log - kept_of b.fats

-- the book with one deed more, after which its fat state is this
abbrev pub with_deed : BookState → ThreadId → Deed → FatState → BookState
with_deed b t d f = record b { fats = f; log = b.log ++ (record { thread = t; deed = d }) ∷ [] }

-- the book after a bind, an action and a tick
abbrev pub after_bind : BookState → ThreadId → ObjectId → ℕ → BookState
after_bind b t o n = with_deed b t (Bound o n (length b.fats.monitors)) (bound_with b.fats o t n)

abbrev pub after_act : BookState → ThreadId → Action → Answer → BookState
after_act b t a r = with_deed b t (Acted a r) (outcome_of b.fats t a).after

abbrev pub after_tick : BookState → ThreadId → ℕ → BookState
after_tick b t now = with_deed b t (Ticked now) (with_moment b.fats now)

-- what they answer: a record with too few free places is a fault before any other
abbrev pub bind_answer : BookState → ThreadId → ObjectId → ℕ → Result Binding BookFault
bind_answer b t o n =
    if nat_lt (free_of b) (1 + n)
    then Err fault.RecordFull
    else (
    if nat_lt (length b.fats.monitors) b.fats.limit
    then Ok (record { object = o; owner = t; holds = n; monitor = length b.fats.monitors })
    else Err fault.NoMonitor)

-- an expire is refused where it is not due, and a collect where nothing is granted; no other action of a book is
abbrev pub told : Result Done ActFault → Result Done BookFault
told (Ok d) = Ok d
told (Err act_fault.NotDue) = Err fault.NotDue
told (Err act_fault.Parked) = Err fault.Parked
told (Err act_fault.NotWaiting) = Err fault.Parked

abbrev pub act_answer : BookState → ThreadId → Action → Result Done BookFault
act_answer b t a =
    if nat_lt (free_of b) (need b.fats t a) then Err fault.RecordFull
    else told (outcome_of b.fats t a).answer

abbrev pub tick_answer : BookState → ℕ → Result (Unit {0}) BookFault
tick_answer b now =
    if nat_lt (free_of b) 1
    then Err fault.RecordFull
    else (
    if nat_lt now b.fats.moment
    then Err fault.Backwards
    else Ok tt)

-- whether a thread with this post, if the book has the thread, is not where its call has it, which has parked or not
abbrev pub is_astray : Option Post → Bool → Bool
is_astray None parked = true
is_astray (Some Out) parked = parked
is_astray (Some (Entering m)) parked = not parked
is_astray (Some (Waiting m n d)) parked = not parked
is_astray (Some (Back m n w)) parked = not parked
is_astray (Some (Granted r)) parked = not parked

-- whether the pass of a thread is torn from the book: the thread is astray, or the pass's own list, which is as long as
-- the record, is full, and the record is not
abbrev pub is_torn : BookState → ThreadId → Bool → Bool → Bool
is_torn b t parked full = is_astray (post_of b.fats t) parked || (full && nat_lt (length b.log) b.places)

-- what always holds of a book
pub record IsBook (b : BookState) : Type 0 where
  pub replays : Replays b.passes (nothing_bound b.passes b.fats.limit) b.log b.fats
  -- used and kept places are within the record
  pub fits : length b.log + kept_of b.fats ≤ b.places
  pub attached : (t : ThreadId) → IsAttached b.fats t ↔ IsThreadOf b.passes t
  -- each monitor to come has its room
  pub spare : b.fats.limit ≤ length b.fats.monitors + b.fats.spare
  pub sound : IsSound b.fats
