-- What the calls on a seat of a live service answer and leave.
use Rattle.std.specs.Prelude.{◌≡◌, ◌⊎◌, ◌≤◌, ℕ, Bool, true, false, ◌||◌, nat_lt, List, length}
use Rattle.std.specs.Prelude.{Option, Some, None}
use Rattle.lock_word.specs.declared.ThreadId.{ThreadId}
use Rattle.fast_path.specs.declared.calls.Call.{Call}
use Rattle.fast_path.specs.declared.calls.Subject.{Subject}
use Rattle.fast_path.specs.declared.calls.Subject.TheVariants as subject
use Rattle.fast_path.specs.Calls.{subject_of}
use Rattle.header_words.specs.Passes.{Opening}
use Rattle.live_book.specs.Names.{live_fault_number}
use Rattle.live_book.specs.declared.faults.LiveFault.{LiveFault}
use Rattle.live_book.specs.declared.faults.LiveFault.TheVariants as fault
use Rattle.live_turns.specs.Points.{names_stranger}
use Rattle.live_turns.specs.declared.standings.Standing.{Standing}
use Rattle.live_turns.specs.declared.standings.Standing.TheVariants as standing
use Rattle.live_seats.specs.Seats.{SeatState, IsIdle, IsOpenedWith}
use Rattle.live_seats.specs.declared.orders.SeatOrder.{SeatOrder}
use Rattle.live_seats.specs.declared.orders.SeatOrder.TheVariants as order
use Rattle.live_seats.specs.declared.orders.Told.{Told}
use Rattle.live_seats.specs.declared.orders.Told.TheVariants as told
use Rattle.nadkhoy_c.specs.declared.plain.PlainCall.{PlainCall}
use Rattle.nadkhoy_c.specs.declared.plain.PlainTurned.{PlainTurned}
use Rattle.nadkhoy_c.specs.declared.status.Status.TheVariants as status
use Rattle.nadkhoy_c.specs.RawSeat.{HasServed}
use Rattle.nadkhoy_c.specs.Reading.{call_from_numbers}
use Rattle.nadkhoy_c.specs.Statuses.{status_number}
use Rattle.nadkhoy_c.specs.Writing.{reply_number, cause_of}

-- the order that begins a call on a subject, if a live service has such a call
abbrev pub order_on : Subject → Option SeatOrder
order_on (subject.Monitor c) = Some (order.BeginOn c)
order_on (subject.Interrupt c) = Some (order.BeginAbout c)
order_on subject.End = None

abbrev pub order_for : Option Call → Option SeatOrder
order_for None = None
order_for (Some c) = order_on (subject_of c)

abbrev pub order_from_numbers : PlainCall → Option SeatOrder
order_from_numbers p = order_for (call_from_numbers p)

abbrev pub standing_number : Standing → ℕ
standing_number (standing.Said r) = 1
standing_number standing.Contended = 2
standing_number standing.GateTaken = 3
standing_number standing.Parked = 4

abbrev pub reply_in : Standing → ℕ
reply_in (standing.Said r) = reply_number r
reply_in standing.Contended = 0
reply_in standing.GateTaken = 0
reply_in standing.Parked = 0

abbrev pub cause_in : Standing → ℕ
cause_in (standing.Said r) = cause_of r
cause_in standing.Contended = 0
cause_in standing.GateTaken = 0
cause_in standing.Parked = 0

-- the thread that was granted a monitor; 0 for none, which is no thread's number
abbrev pub granted_number : Option ThreadId → ℕ
granted_number None = 0
granted_number (Some t) = t.0

abbrev pub plain_turned : Standing → Option ThreadId → PlainTurned
plain_turned s g = record {
  standing = standing_number s;
  reply = reply_in s;
  cause = cause_in s;
  granted = granted_number g;
}

-- the status of what a seat tells: a fault of the live service keeps its own number
abbrev pub told_status : Told → ℕ
told_status told.InCall = 6
told_status told.NotCalling = 7
told_status (told.Turned s g) = 0
told_status (told.Ticked b) = 0
told_status (told.Fault f) = live_fault_number f
told_status (told.Thread t) = 0
told_status told.Shared = 0
told_status told.NoPass = status_number status.NoPass
told_status told.Memory = status_number status.Memory
told_status told.Left = 0

-- what stands where a call writes what a turn came to
abbrev pub turned_out : Told → PlainTurned → PlainTurned
turned_out told.InCall x = x
turned_out told.NotCalling x = x
turned_out (told.Turned s g) x = plain_turned s g
turned_out (told.Ticked b) x = x
turned_out (told.Fault f) x = x
turned_out (told.Thread t) x = x
turned_out told.Shared x = x
turned_out told.NoPass x = x
turned_out told.Memory x = x
turned_out told.Left x = x

abbrev pub one_if : Bool → ℕ
one_if true = 1
one_if false = 0

-- what stands where a call writes whether the moment was told, or the number of a thread
abbrev pub number_out : Told → ℕ → ℕ
number_out told.InCall x = x
number_out told.NotCalling x = x
number_out (told.Turned s g) x = x
number_out (told.Ticked b) x = one_if b
number_out (told.Fault f) x = x
number_out (told.Thread t) x = t.0
number_out told.Shared x = x
number_out told.NoPass x = x
number_out told.Memory x = x
number_out told.Left x = x

-- an order that a seat carried out: what is answered of it, the slot then, and what stands where the call writes
abbrev pub HasAnswered : {X : Type 0} → (Told → X → X) → SeatOrder → Option SeatState → X → ℕ
    → Option SeatState → X → Type 0
HasAnswered write o s x n s' x' = (t : Told) × HasServed s o t s' None × (n ≡ told_status t) × (x' ≡ write t x)

-- An order of the seat in a slot, if the numbers name one: what is answered, what the slot has then, and what stands
-- where the call writes. write says what is written of what the seat tells.
abbrev pub Answers : {X : Type 0} → (Told → X → X) → Option SeatOrder → Option SeatState → X → ℕ
    → Option SeatState → X → Type 0
Answers write o None x n s' x' = (n ≡ status_number status.Closed) × (s' ≡ None) × (x' ≡ x)
Answers write None (Some v) x n s' x' = (n ≡ status_number status.NoStep) × (s' ≡ Some v) × (x' ≡ x)
Answers write (Some o) (Some v) x n s' x' = HasAnswered write o (Some v) x n s' x'

-- the service does not have the object, or the thread, that the order of a call names, and the fault that says so
abbrev pub Misses : Opening → SeatOrder → Type 0
Misses z (order.BeginOn c) = length z.lows ≤ c.object.0
Misses z (order.BeginAbout c) = names_stranger z c ≡ true
Misses z o = ⊥

abbrev pub missing_fault : SeatOrder → LiveFault
missing_fault (order.BeginAbout c) = fault.NoThread
missing_fault o = fault.NoObject

-- A call that a seat in no call begins, on what its service does not have, is answered by that fault.
abbrev pub AnswersMissing : Option SeatOrder → Option SeatState → ℕ → Type 0
AnswersMissing None s n = Unit {0}
AnswersMissing (Some o) None n = Unit {0}
AnswersMissing (Some o) (Some v) n = IsIdle v.pass → Misses v.opening o → n ≡ live_fault_number (missing_fault o)

-- the sizes are more than a service can have, or it has no pass
abbrev pub is_out_of_range : ℕ → ℕ → ℕ → ℕ → Bool
is_out_of_range objects monitors passes places =
    nat_lt 65535 objects || (nat_lt 8388608 monitors
    || (nat_lt passes 1 || (nat_lt 64 passes || nat_lt 1048576 places)))

-- the slot has a seat of a new service with these low bytes, or there was no memory for it
abbrev pub IsNewService : List ℕ → ℕ → ℕ → ℕ → Option SeatState → Type 0
IsNewService lows monitors passes n s' =
    ((n ≡ 0) × ((v : SeatState) × (s' ≡ Some v) × IsOpenedWith lows monitors passes v))
    ⊎ ((n ≡ status_number status.Memory) × (s' ≡ None))

-- where the sizes are out of range, or are not
abbrev pub OpensWithin : Bool → List ℕ → ℕ → ℕ → ℕ → Option SeatState → Type 0
OpensWithin true lows monitors passes n s' = (n ≡ status_number status.Range) × (s' ≡ None)
OpensWithin false lows monitors passes n s' = IsNewService lows monitors passes n s'

-- what an opening answers, and the seat in the slot then
abbrev pub Opens : Option SeatState → List ℕ → ℕ → ℕ → ℕ → ℕ → Option SeatState → Type 0
Opens (Some v) lows monitors passes places n s' = (n ≡ status_number status.InUse) × (s' ≡ Some v)
Opens None lows monitors passes places n s' =
    OpensWithin (is_out_of_range (length lows) monitors passes places) lows monitors passes n s'

-- One more seat of the service of a slot, for an empty one: what is answered, and the seats in the two then.
abbrev pub SharesSeat : Option SeatState → Option SeatState → ℕ → Option SeatState
    → Option SeatState → Type 0
SharesSeat None u n s' u' = (n ≡ status_number status.Closed) × (s' ≡ None) × (u' ≡ u)
SharesSeat (Some v) (Some u) n s' u' = (n ≡ status_number status.InUse) × (s' ≡ Some v) × (u' ≡ Some u)
SharesSeat (Some v) None n s' u' = (t : Told) × HasServed (Some v) order.Share t s' u' × (n ≡ told_status t)

-- a seat that leaves its service, and leaves the slot empty
abbrev pub leave_status : Option SeatState → ℕ
leave_status None = status_number status.Closed
leave_status (Some v) = 0
