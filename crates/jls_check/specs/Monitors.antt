-- What a checker keeps of each object: its monitor, and how many threads wait on it.
use Rattle.std.specs.Prelude.{ℕ, ◌+◌, ◌-◌, ◌^◌, ◌<◌, ◌==◌, Bool, false, Option, Some, None}
use Rattle.std.specs.Prelude.{List, length, slice_index_or, slice_set, count_by}
use Rattle.std.specs.List.{list_any}
use Rattle.lock_word.specs.declared.ThreadId.{ThreadId}
use Rattle.lock_word.specs.declared.ObjectId.{ObjectId}
use Rattle.step_core.specs.declared.machine.Doing.{Doing}
use Rattle.step_core.specs.declared.machine.Doing.TheVariants.{Idle, Wants, Waits, Back, Has}
use Rattle.jls_check.specs.declared.monitors.Held.{Held}
use Rattle.jls_check.specs.declared.monitors.ObjectRecord.{ObjectRecord}

-- nobody owns the monitor
abbrev pub unheld : Held
unheld = record { owner = None; count = 0 }

-- and nobody waits on the object
abbrev pub untouched : ObjectRecord
untouched = record { held = unheld; waiting = 0 }

-- what is kept of an object, where one that does not exist is untouched
abbrev pub kept_at : List ObjectRecord → ObjectId → ObjectRecord
kept_at os o = slice_index_or os o.0 untouched

abbrev pub waiting_in : List ObjectRecord → ObjectId → ℕ
waiting_in os o = (kept_at os o).waiting

-- the same, where so many threads wait on o
abbrev pub with_waiting : List ObjectRecord → ObjectId → ℕ → List ObjectRecord
with_waiting os o n = slice_set os o.0 (record { held = (kept_at os o).held; waiting = n })

-- the same, where o has this monitor
abbrev pub with_monitor_held : List ObjectRecord → ObjectId → Held → List ObjectRecord
with_monitor_held os o h = slice_set os o.0 (record { held = h; waiting = waiting_in os o })

-- one thread less waits, where this is what it did
abbrev pub left : List ObjectRecord → Doing → List ObjectRecord
left os (Waits o n d) = with_waiting os o (waiting_in os o - 1)
left os Idle = os
left os (Wants c) = os
left os (Back o n w) = os
left os (Has r) = os

-- one thread more waits, where this is what it does
abbrev pub joined : List ObjectRecord → Doing → List ObjectRecord
joined os (Waits o n d) = with_waiting os o (waiting_in os o + 1)
joined os Idle = os
joined os (Wants c) = os
joined os (Back o n w) = os
joined os (Has r) = os

-- there is a thread to leave the wait set of the object that this act waits on
abbrev pub HasWaiter : List ObjectRecord → Doing → Type 0
HasWaiter os (Waits o n d) = (o.0 < length os) × (0 < waiting_in os o)
HasWaiter os d = Unit {0}

-- one thread more can be counted
abbrev pub CanCountOneMore : List ObjectRecord → Doing → Type 0
CanCountOneMore os (Waits o n d) = (o.0 < length os) × (waiting_in os o < 2 ^ 63)
CanCountOneMore os d = Unit {0}

-- whether t is the owner
abbrev pub is_owned_by : Option ThreadId → ThreadId → Bool
is_owned_by None t = false
is_owned_by (Some u) t = u.0 == t.0

abbrev pub has_owner : ThreadId → ObjectRecord → Bool
has_owner t r = is_owned_by r.held.owner t

-- whether t owns an object
abbrev pub owns_one : List ObjectRecord → ThreadId → Bool
owns_one os t = list_any (has_owner t) os

-- how many objects t owns
abbrev pub owned_count : List ObjectRecord → ThreadId → ℕ
owned_count os t = count_by (has_owner t) os
