-- What a close of a live service answers and leaves, and what the calls that read its end answer.
use Rattle.std.specs.Prelude.{◌≡◌, ℕ, pos, length, slice_get, Option, Some, None}
use Rattle.lock_word.specs.declared.ThreadId.{ThreadId}
use Rattle.lock_word.specs.declared.Word.{Word}
use Rattle.fat_monitor.specs.declared.actions.Action.{Action}
use Rattle.fat_monitor.specs.declared.actions.Action.TheVariants as action
use Rattle.fat_monitor.specs.declared.actions.Answer.{Answer}
use Rattle.fat_monitor.specs.declared.actions.Answer.TheVariants as answer
use Rattle.live_book.specs.declared.deeds.Deed.{Deed}
use Rattle.live_book.specs.declared.deeds.Deed.TheVariants as deed
use Rattle.live_book.specs.declared.deeds.Logged.{Logged}
use Rattle.live_seats.specs.Seats.{SeatState}
use Rattle.live_seats.specs.Ends.{Closes}
use Rattle.live_seats.specs.declared.ending.ServiceEnd.{ServiceEnd}
use Rattle.live_seats.specs.declared.ending.Closing.{Closing}
use Rattle.live_seats.specs.declared.ending.Closing.TheVariants as closing
use Rattle.nadkhoy_c.specs.declared.plain.PlainEnd.{PlainEnd}
use Rattle.nadkhoy_c.specs.declared.plain.PlainDeed.{PlainDeed}
use Rattle.nadkhoy_c.specs.declared.plain.PlainPass.{PlainPass}
use Rattle.nadkhoy_c.specs.declared.status.Status.TheVariants as status
use Rattle.nadkhoy_c.specs.Showing.{Reading, unread, found}
use Rattle.nadkhoy_c.specs.Statuses.{status_number}
use Rattle.nadkhoy_c.specs.Writing.{action_number, answer_number, reply_number, cause_of}

-- a seat was closed
abbrev pub HasClosed : Option SeatState → Closing → Option SeatState → Option ServiceEnd → Type 0
HasClosed s t q e = (v : SeatState) × (s ≡ Some v) × Closes v t q e

-- the status of what came of a close; that of a torn pass is the fault's own number
abbrev pub closing_status : Closing → ℕ
closing_status closing.Done = 0
closing_status closing.Others = status_number status.OtherSeats
closing_status closing.WrongPass = status_number status.WrongPass
closing_status closing.Memory = status_number status.Memory
closing_status closing.Torn = 18

-- A close of the service of a seat: what is answered, and what the two slots have then.
abbrev pub ClosesSeat : Option SeatState → Option ServiceEnd → ℕ → Option SeatState → Option ServiceEnd → Type 0
ClosesSeat None e n s' e' = (n ≡ status_number status.Closed) × (s' ≡ None) × (e' ≡ e)
ClosesSeat (Some v) (Some e) n s' e' = (n ≡ status_number status.InUse) × (s' ≡ Some v) × (e' ≡ Some e)
ClosesSeat (Some v) None n s' e' = (t : Closing) × HasClosed (Some v) t s' e' × (n ≡ closing_status t)

-- a reading of the end in the slot
abbrev pub read_end : {X : Type 0} → (ServiceEnd → X → Reading X) → Option ServiceEnd → X → Reading X
read_end f None x = unread status.Closed x
read_end f (Some e) x = f e x

abbrev pub end_sizes : ServiceEnd → PlainEnd
end_sizes e = record {
  objects = length e.closed.words.items;
  deeds = length e.closed.logged.items;
  passes = length e.threads.items;
}

abbrev pub end_sizes_shown : ServiceEnd → PlainEnd → Reading PlainEnd
end_sizes_shown e x = found (end_sizes e)

abbrev pub word_as : Option Word → ℕ → Reading ℕ
word_as None x = unread status.NoObject x
word_as (Some w) x = found w.0

abbrev pub word_shown : ServiceEnd → ℕ → ℕ → Reading ℕ
word_shown e n x = word_as (slice_get e.closed.words.items n) x

abbrev pub no_deed : ThreadId → PlainDeed
no_deed t = record {
  moment = 0;
  millis = pos 0;
  nanos = pos 0;
  kind = 0;
  thread = t.0;
  object = 0;
  holds = 0;
  monitor = 0;
  action = 0;
  target = 0;
  answer = 0;
  reply = 0;
  cause = 0;
}

-- the reply of an answer, and its cause; 0 for none
abbrev pub reply_told : Answer → ℕ
reply_told (answer.Reply r) = reply_number r
reply_told answer.Parked = 0
reply_told answer.Quiet = 0

abbrev pub cause_told : Answer → ℕ
cause_told (answer.Reply r) = cause_of r
cause_told answer.Parked = 0
cause_told answer.Quiet = 0

-- an action of a thread, and what it was told
abbrev pub plain_action : ThreadId → Action → Answer → PlainDeed
plain_action t a x = record (no_deed t) {
  kind = 2;
  action = action_number a;
  answer = answer_number x;
  reply = reply_told x;
  cause = cause_told x;
}

abbrev pub deed_on_monitor : PlainDeed → ℕ → PlainDeed
deed_on_monitor d m = record d { monitor = m }

abbrev pub about_thread : PlainDeed → ThreadId → PlainDeed
about_thread d u = record d { target = u.0 }

-- with the monitor that the action is on, the thread that it asks about, and the time of a wait
abbrev pub with_numbers : PlainDeed → Action → PlainDeed
with_numbers d (action.Enter m) = deed_on_monitor d m
with_numbers d (action.Exit m) = deed_on_monitor d m
with_numbers d (action.Wait m millis nanos) = record d { monitor = m; millis = millis; nanos = nanos }
with_numbers d (action.Notify m) = deed_on_monitor d m
with_numbers d (action.NotifyAll m) = deed_on_monitor d m
with_numbers d (action.Holds m) = deed_on_monitor d m
with_numbers d (action.Interrupt u) = about_thread d u
with_numbers d action.Interrupted = d
with_numbers d (action.IsInterrupted u) = about_thread d u
with_numbers d action.Expire = d
with_numbers d action.Spurious = d
with_numbers d action.Collect = d
with_numbers d action.End = d

abbrev pub deed_by : Deed → ThreadId → PlainDeed
deed_by (deed.Bound o n m) t = record (no_deed t) { kind = 1; object = o.0; holds = n; monitor = m }
deed_by (deed.Acted a x) t = with_numbers (plain_action t a x) a
deed_by (deed.Ticked now) t = record (no_deed t) { kind = 3; moment = now }

abbrev pub plain_deed : Logged → PlainDeed
plain_deed l = deed_by l.deed l.thread

abbrev pub deed_as : Option Logged → PlainDeed → Reading PlainDeed
deed_as None x = unread status.NoDeed x
deed_as (Some l) x = found (plain_deed l)

abbrev pub deed_shown : ServiceEnd → ℕ → PlainDeed → Reading PlainDeed
deed_shown e n x = deed_as (slice_get e.closed.logged.items n) x

abbrev pub pass_as : Option ThreadId → Option ℕ → PlainPass → Reading PlainPass
pass_as (Some t) (Some c) x = found (record { deeds = c; thread = t.0 })
pass_as (Some t) None x = unread status.NoPass x
pass_as None c x = unread status.NoPass x

abbrev pub pass_shown : ServiceEnd → ℕ → PlainPass → Reading PlainPass
pass_shown e n x = pass_as (slice_get e.threads.items n) (slice_get e.closed.counts.items n) x

-- what a free of the end answers
abbrev pub end_free_status : Option ServiceEnd → ℕ
end_free_status None = status_number status.Closed
end_free_status (Some e) = 0
