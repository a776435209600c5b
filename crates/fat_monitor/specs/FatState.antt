-- The fat monitors, the attached threads, and the lines in which threads stand.
use Rattle.std.specs.Prelude.{◌≡◌, ◌≢◌, ◌⊎◌, ℕ, ◌+◌, ◌-◌, max, ◌<◌, ◌≤◌, ◌↔◌, Bool, true, false, if◌then◌else◌, ◌==◌}
use Rattle.std.specs.Prelude.{nat_lt, List, [], ◌∷◌, ◌++◌, length, map as list_map, count_by, slice_index_or, slice_get}
use Rattle.std.specs.Prelude.{slice_set, Option, Some, None, IsSome}
use Rattle.std.specs.Option.{option_map, unwrap_or}
use Rattle.std.specs.List.{list_any}
use Rattle.std.specs.Ordering.{nat_cmp}
use Rattle.std.specs.FinMap as map
use Rattle.lock_word.specs.declared.ThreadId.{ThreadId}
use Rattle.lock_word.specs.declared.ObjectId.{ObjectId}
use Rattle.wait_lines.specs.declared.Role.{Role}
use Rattle.wait_lines.specs.declared.Role.TheVariants.{Entry, Waiting as WaitSet}
use Rattle.wait_lines.specs.Lines.{Key, key, LineMap, line, Standing, nobody, StandsIn, total_count, IsOrderly}
use Rattle.fat_monitor.specs.declared.actions.Cause.{Cause}
use Rattle.fat_monitor.specs.declared.actions.Cause.TheVariants.{NoMonitor, Memory}
use Rattle.fat_monitor.specs.declared.actions.Reply.TheVariants as reply
use Rattle.fat_monitor.specs.declared.actions.Post.{Post}
use Rattle.fat_monitor.specs.declared.actions.Post.TheVariants.{Out, Entering, Waiting, Back, Granted}
use Rattle.fat_monitor.specs.declared.monitors.Monitor.{Monitor}

-- the bound monitors, by number; the post and the interrupt flag of each attached thread, by the thread's
-- number; who stands in which line, with the room that there is for it; the moment, in nanoseconds; how many
-- monitors there may be; and how many binds to come have their room already
pub record FatState : Type 0 where
  pub monitors : List Monitor
  pub threads : map.FinMap nat_cmp Post
  pub flags : map.FinMap nat_cmp Bool
  pub standing : Standing
  pub moment : ℕ
  pub limit : ℕ
  pub spare : ℕ

-- no monitor is bound, no thread is attached, and the moment is 0
abbrev pub opened : ℕ → FatState
opened limit = record {
  monitors = [];
  threads = map.empty;
  flags = map.empty;
  standing = nobody;
  moment = 0;
  limit = limit;
  spare = 0;
}

-- what an unbound monitor reads as
abbrev pub unbound : Monitor
unbound = record { object = record { 0 = 0 }; owner = None; holds = 0 }

-- the monitor with a number, or the unbound one
abbrev pub monitor_at : FatState → ℕ → Monitor
monitor_at f m = slice_index_or f.monitors m unbound

-- the object whose monitor has a number
abbrev pub object_at : FatState → ℕ → Option ObjectId
object_at f m = option_map (λ (b : Monitor). b.object) (slice_get f.monitors m)

-- where an attached thread stands
abbrev pub post_of : FatState → ThreadId → Option Post
post_of f t = map.get f.threads t.0

-- the same, where a thread that is not attached reads as out
abbrev pub post_at : FatState → ThreadId → Post
post_at f t = unwrap_or (post_of f t) Out

abbrev pub IsAttached : FatState → ThreadId → Type 0
IsAttached f t = IsSome (post_of f t)

-- whether an attached thread is interrupted; one that is not attached is not
abbrev pub flag_at : FatState → ThreadId → Bool
flag_at f t = unwrap_or (map.get f.flags t.0) false

-- the flag of an attached thread
abbrev pub flag_of : FatState → ThreadId → Option Bool
flag_of f t = option_map (λ (p : Post). flag_at f t) (post_of f t)

-- the objects of the bound monitors, by number
abbrev pub objects_of : FatState → List ObjectId
objects_of f = list_map (λ (b : Monitor). b.object) f.monitors

abbrev pub thread_count : FatState → ℕ
thread_count f = map.len f.threads

-- the entry line of a monitor, or its wait set, in order of joining; and who joined first
abbrev pub line_of : FatState → ℕ → Role → List ThreadId
line_of f m r = line f.standing.lines m r

abbrev pub first_of : FatState → ℕ → Role → Option ThreadId
first_of f m r = slice_get (line_of f m r) 0

-- the same, with this monitor under this number
abbrev pub with_monitor : FatState → ℕ → Monitor → FatState
with_monitor f m b = record f { monitors = slice_set f.monitors m b }

-- the same, with this owner and these holds of a monitor
abbrev pub with_owner : FatState → ℕ → Option ThreadId → ℕ → FatState
with_owner f m t n = with_monitor f m (record (monitor_at f m) { owner = t; holds = n })

-- the same, with this post of a thread
abbrev pub with_post : FatState → ThreadId → Post → FatState
with_post f t p = record f { threads = map.insert f.threads t.0 p }

-- the same, with this flag of a thread
abbrev pub with_flag : FatState → ThreadId → Bool → FatState
with_flag f t flag = record f { flags = map.insert f.flags t.0 flag }

-- the same, at this moment
abbrev pub with_moment : FatState → ℕ → FatState
with_moment f now = record f { moment = now }

-- the same, with these lines
abbrev pub with_lines : FatState → LineMap → FatState
with_lines f lines = record f { standing = record f.standing { lines = lines } }

-- room for one more thread in the lines, where as many are attached as there is room for
abbrev pub room_for : ℕ → ℕ → ℕ
room_for threads reservations = if threads == reservations then reservations + 1 else reservations

-- the same, with one thread more, which is not interrupted
abbrev pub with_thread : FatState → ThreadId → FatState
with_thread f t = record f {
  threads = map.insert f.threads t.0 Out;
  flags = map.insert f.flags t.0 false;
  standing = record f.standing { reservations = room_for (thread_count f) f.standing.reservations };
}

-- the same, without this thread
abbrev pub without_thread : FatState → ThreadId → FatState
without_thread f t = record f { threads = map.remove f.threads t.0; flags = map.remove f.flags t.0 }

-- the same, with one monitor more: it has this object, owner and holds. It takes the room that one bind had, if
-- one had
abbrev pub bound_with : FatState → ObjectId → ThreadId → ℕ → FatState
bound_with f o t n = record f {
  monitors = f.monitors ++ (record { object = o; owner = Some t; holds = n }) ∷ [];
  spare = f.spare - 1;
}

-- the same, with room for at least as many binds as this
abbrev pub with_spare : FatState → ℕ → FatState
with_spare f n = record f { spare = max f.spare n }

-- why a bind is refused: memory is only asked for where there is a monitor left
abbrev pub refusal : FatState → Cause
refusal f = if nat_lt (length f.monitors) f.limit then Memory else NoMonitor

abbrev pub is_owned_by : Option ThreadId → ThreadId → Bool
is_owned_by None t = false
is_owned_by (Some u) t = u.0 == t.0

-- the thread owns one of these monitors
abbrev pub owns_one : List Monitor → ThreadId → Bool
owns_one monitors t = list_any (λ (b : Monitor). is_owned_by b.owner t) monitors

-- a monitor has an owner exactly where it is held
abbrev pub IsFair : Monitor → Type 0
IsFair b = (b.holds ≤ 65535) × ((b.owner ≡ None) ↔ (b.holds ≡ 0))

-- the key of the line that a thread with this post stands in; none where it stands in none
abbrev pub line_key_of : Post → Option Key
line_key_of Out = None
line_key_of (Entering m) = Some (key m Entry)
line_key_of (Waiting m n d) = Some (key m WaitSet)
line_key_of (Back m n w) = Some (key m Entry)
line_key_of (Granted r) = None

abbrev pub stands : Post → Bool
stands Out = false
stands (Entering m) = true
stands (Waiting m n d) = true
stands (Back m n w) = true
stands (Granted r) = false

-- how many of the threads stand in a line
abbrev pub stand_count : map.FinMap nat_cmp Post → ℕ
stand_count threads = count_by stands (map.values threads)

-- whether a thread with this post stands in a wait set, and how many of the threads do
abbrev pub waits : Post → Bool
waits Out = false
waits (Entering m) = false
waits (Waiting m n d) = true
waits (Back m n w) = false
waits (Granted r) = false

abbrev pub wait_count : map.FinMap nat_cmp Post → ℕ
wait_count threads = count_by waits (map.values threads)

-- these holds may be given up by a wait and taken back
abbrev pub IsHeld : ℕ → Type 0
IsHeld n = (1 ≤ n) × (n ≤ 65535)

-- a post names a bound monitor, and the holds that its thread comes back to; a grant is of an enter or a wait
abbrev pub IsProper : FatState → Post → Type 0
IsProper f Out = Unit {0}
IsProper f (Entering m) = m < length f.monitors
IsProper f (Waiting m n d) = (m < length f.monitors) × IsHeld n
IsProper f (Back m n w) = (m < length f.monitors) × IsHeld n
IsProper f (Granted r) = (r ≡ reply.Entered) ⊎ ((r ≡ reply.WaitOver) ⊎ (r ≡ reply.Interrupted))

-- a thread with this post, of an entry line, has holds to get back that it may have
abbrev pub ComesBack : Post → Type 0
ComesBack Out = Unit {0}
ComesBack (Entering m) = Unit {0}
ComesBack (Waiting m n d) = Unit {0}
ComesBack (Back m n w) = IsHeld n
ComesBack (Granted r) = Unit {0}

-- A thread stands in an entry line only while another thread owns that monitor.
abbrev pub StandBehindOwners : FatState → Type 0
StandBehindOwners f =
    (t : ThreadId) (m : ℕ) → StandsIn f.standing.lines t m Entry
    → (u : ThreadId) × ((monitor_at f m).owner ≡ Some u) × (u ≢ t)

-- what every fat state keeps
pub record IsSound (f : FatState) : Type 0 where
  pub few : length f.monitors ≤ f.limit
  pub limit : f.limit ≤ 8388608
  pub fair : (m : ℕ) → m < length f.monitors → IsFair (monitor_at f m)
  pub proper : (t : ThreadId) (p : Post) → post_of f t ≡ Some p → IsProper f p
  -- a thread stands where its post says
  pub posted : (t : ThreadId) (p : Post) (m : ℕ) (r : Role) → post_of f t ≡ Some p → line_key_of p ≡ Some (key m r)
      → StandsIn f.standing.lines t m r
  pub standing : (t : ThreadId) (m : ℕ) (r : Role) → StandsIn f.standing.lines t m r
      → (p : Post) × (post_of f t ≡ Some p) × (line_key_of p ≡ Some (key m r))
  -- an entry line is behind an owner, and nobody stands in a line of a monitor that it owns
  pub behind : (t : ThreadId) (m : ℕ) → StandsIn f.standing.lines t m Entry → IsSome (monitor_at f m).owner
  pub apart : (t : ThreadId) (m : ℕ) (r : Role) → StandsIn f.standing.lines t m r → (monitor_at f m).owner ≢ Some t
  -- each attached thread has room in the lines
  pub room : thread_count f ≤ f.standing.reservations
  pub counted : total_count f.standing.lines ≡ stand_count f.threads
  pub orderly : IsOrderly f.standing
