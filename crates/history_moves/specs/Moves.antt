-- A move as data.
use Rattle.std.specs.Prelude.{◌≡◌, ℕ, ◌<◌, ◌^◌, List, codes, ℤ, pos, negsuc, Option, None, Some}
use Rattle.serde_json.specs.Data.{Data, Num, null, number, unsigned, negative, string, object, Members, member}
use Rattle.serde_json.specs.Data.{no_members}
use Rattle.lock_word.specs.declared.ThreadId.{ThreadId}
use Rattle.lock_word.specs.declared.ObjectId.{ObjectId}
use Rattle.fat_monitor.specs.Names.{cause_name}
use Rattle.fat_monitor.specs.declared.actions.Reply.TheVariants as reply
use Rattle.fast_path.specs.declared.calls.Call.{Call as CallData}
use Rattle.fast_path.specs.declared.calls.Call.TheVariants as call
use Rattle.step_core.specs.declared.machine.Move.{Move}
use Rattle.step_core.specs.declared.machine.Move.TheVariants as move

abbrev pub of_number : ℕ → Data
of_number n = number (unsigned n)

abbrev pub num_of_signed : ℤ → Num
num_of_signed (pos n) = unsigned n
num_of_signed (negsuc n) = negative (negsuc n)

abbrev pub of_signed : ℤ → Data
of_signed z = number (num_of_signed z)

abbrev pub of_chosen : Option ThreadId → Data
of_chosen None = null
of_chosen (Some u) = of_number u.0

-- ---- the shapes of a move, keys in order

abbrev pub plain_members : List ℕ → ThreadId → Members
plain_members name t = member (codes "move") (string name) (member (codes "thread") (of_number t.0) no_members)

abbrev pub bare_members : List ℕ → ThreadId → Members
bare_members verb t =
    member (codes "call") (string verb)
    (member (codes "move") (string (codes "Call")) (member (codes "thread") (of_number t.0) no_members))

abbrev pub object_members : List ℕ → ObjectId → ThreadId → Members
object_members verb o t =
    member (codes "call") (string verb)
    (member (codes "move") (string (codes "Call"))
    (member (codes "object") (of_number o.0) (member (codes "thread") (of_number t.0) no_members)))

abbrev pub target_members : List ℕ → ThreadId → ThreadId → Members
target_members verb u t =
    member (codes "call") (string verb)
    (member (codes "move") (string (codes "Call"))
    (member (codes "target") (of_number u.0) (member (codes "thread") (of_number t.0) no_members)))

abbrev pub wait_members : ObjectId → ℤ → ℤ → ThreadId → Members
wait_members o millis nanos t =
    member (codes "call") (string (codes "Wait"))
    (member (codes "millis") (of_signed millis)
    (member (codes "move") (string (codes "Call"))
    (member (codes "nanos") (of_signed nanos)
    (member (codes "object") (of_number o.0) (member (codes "thread") (of_number t.0) no_members)))))

abbrev pub reply_members : List ℕ → ThreadId → Members
reply_members word t =
    member (codes "move") (string (codes "Return"))
    (member (codes "reply") (string word) (member (codes "thread") (of_number t.0) no_members))

abbrev pub refused_members : List ℕ → ThreadId → Members
refused_members word t =
    member (codes "cause") (string word)
    (member (codes "move") (string (codes "Return"))
    (member (codes "reply") (string (codes "Refused")) (member (codes "thread") (of_number t.0) no_members)))

abbrev pub notify_members : Option ThreadId → ThreadId → Members
notify_members u t =
    member (codes "chosen") (of_chosen u)
    (member (codes "move") (string (codes "Notify")) (member (codes "thread") (of_number t.0) no_members))

abbrev pub refuse_members : List ℕ → ThreadId → Members
refuse_members word t =
    member (codes "cause") (string word)
    (member (codes "move") (string (codes "Refuse")) (member (codes "thread") (of_number t.0) no_members))

abbrev pub time_members : ℕ → Members
time_members now = member (codes "move") (string (codes "Time")) (member (codes "now") (of_number now) no_members)

abbrev pub call_members : CallData → ThreadId → Members
call_members (call.Enter o) t = object_members (codes "Enter") o t
call_members (call.Exit o) t = object_members (codes "Exit") o t
call_members (call.Notify o) t = object_members (codes "Notify") o t
call_members (call.NotifyAll o) t = object_members (codes "NotifyAll") o t
call_members (call.Holds o) t = object_members (codes "Holds") o t
call_members (call.Wait o millis nanos) t = wait_members o millis nanos t
call_members (call.Interrupt u) t = target_members (codes "Interrupt") u t
call_members (call.IsInterrupted u) t = target_members (codes "IsInterrupted") u t
call_members call.Interrupted t = bare_members (codes "Interrupted") t
call_members call.End t = bare_members (codes "End") t

abbrev pub members_of_move : Move → Members
members_of_move (move.Attach t) = plain_members (codes "Attach") t
members_of_move (move.Lock t) = plain_members (codes "Lock") t
members_of_move (move.Unlock t) = plain_members (codes "Unlock") t
members_of_move (move.Illegal t) = plain_members (codes "Illegal") t
members_of_move (move.BadArgument t) = plain_members (codes "BadArgument") t
members_of_move (move.Early t) = plain_members (codes "Early") t
members_of_move (move.Wait t) = plain_members (codes "Wait") t
members_of_move (move.NotifyAll t) = plain_members (codes "NotifyAll") t
members_of_move (move.Interrupt t) = plain_members (codes "Interrupt") t
members_of_move (move.TestClear t) = plain_members (codes "TestClear") t
members_of_move (move.Ask t) = plain_members (codes "Ask") t
members_of_move (move.Expire t) = plain_members (codes "Expire") t
members_of_move (move.Spurious t) = plain_members (codes "Spurious") t
members_of_move (move.Relock t) = plain_members (codes "Relock") t
members_of_move (move.End t) = plain_members (codes "End") t
members_of_move (move.Call t c) = call_members c t
members_of_move (move.Return t reply.Entered) = reply_members (codes "Entered") t
members_of_move (move.Return t reply.Exited) = reply_members (codes "Exited") t
members_of_move (move.Return t reply.WaitOver) = reply_members (codes "WaitOver") t
members_of_move (move.Return t reply.Interrupted) = reply_members (codes "Interrupted") t
members_of_move (move.Return t reply.Notified) = reply_members (codes "Notified") t
members_of_move (move.Return t reply.Yes) = reply_members (codes "Yes") t
members_of_move (move.Return t reply.No) = reply_members (codes "No") t
members_of_move (move.Return t reply.Done) = reply_members (codes "Done") t
members_of_move (move.Return t reply.Ended) = reply_members (codes "Ended") t
members_of_move (move.Return t reply.IllegalMonitorState) = reply_members (codes "IllegalMonitorState") t
members_of_move (move.Return t reply.IllegalArgument) = reply_members (codes "IllegalArgument") t
members_of_move (move.Return t (reply.Refused c)) = refused_members (cause_name c) t
members_of_move (move.Notify t u) = notify_members u t
members_of_move (move.Refuse t c) = refuse_members (cause_name c) t
members_of_move (move.Time now) = time_members now

abbrev pub data_of : Move → Data
data_of m = object (members_of_move m)

-- ---- what a move can be

-- a number of 64 bits, and one of 32
abbrev pub FitsLong : ℤ → Type 0
FitsLong (pos n) = n < 2 ^ 63
FitsLong (negsuc n) = Unit {0}

abbrev pub FitsInt : ℤ → Type 0
FitsInt (pos n) = n < 2 ^ 31
FitsInt (negsuc n) = n < 2 ^ 31

abbrev pub CallFits : CallData → Type 0
CallFits (call.Enter o) = o.0 < 2 ^ 32
CallFits (call.Exit o) = o.0 < 2 ^ 32
CallFits (call.Notify o) = o.0 < 2 ^ 32
CallFits (call.NotifyAll o) = o.0 < 2 ^ 32
CallFits (call.Holds o) = o.0 < 2 ^ 32
CallFits (call.Wait o millis nanos) = (o.0 < 2 ^ 32) × FitsLong millis × FitsInt nanos
CallFits (call.Interrupt u) = u.0 < 2 ^ 32
CallFits (call.IsInterrupted u) = u.0 < 2 ^ 32
CallFits call.Interrupted = Unit {0}
CallFits call.End = Unit {0}

abbrev pub ChosenFits : Option ThreadId → Type 0
ChosenFits None = Unit {0}
ChosenFits (Some u) = u.0 < 2 ^ 32

abbrev pub Fits : Move → Type 0
Fits (move.Attach t) = t.0 < 2 ^ 32
Fits (move.Lock t) = t.0 < 2 ^ 32
Fits (move.Unlock t) = t.0 < 2 ^ 32
Fits (move.Illegal t) = t.0 < 2 ^ 32
Fits (move.BadArgument t) = t.0 < 2 ^ 32
Fits (move.Early t) = t.0 < 2 ^ 32
Fits (move.Wait t) = t.0 < 2 ^ 32
Fits (move.NotifyAll t) = t.0 < 2 ^ 32
Fits (move.Interrupt t) = t.0 < 2 ^ 32
Fits (move.TestClear t) = t.0 < 2 ^ 32
Fits (move.Ask t) = t.0 < 2 ^ 32
Fits (move.Expire t) = t.0 < 2 ^ 32
Fits (move.Spurious t) = t.0 < 2 ^ 32
Fits (move.Relock t) = t.0 < 2 ^ 32
Fits (move.End t) = t.0 < 2 ^ 32
Fits (move.Call t c) = (t.0 < 2 ^ 32) × CallFits c
Fits (move.Return t r) = t.0 < 2 ^ 32
Fits (move.Notify t u) = (t.0 < 2 ^ 32) × ChosenFits u
Fits (move.Refuse t c) = t.0 < 2 ^ 32
Fits (move.Time now) = Unit {0}

-- ---- the first line

abbrev pub objects_members : ℕ → Members
objects_members n = member (codes "objects") (of_number n) no_members

abbrev pub first_data : ℕ → Data
first_data n = object (objects_members n)

-- ---- what data are

-- the data are this move
abbrev pub IsMoveData : Data → Move → Type 0
IsMoveData d m = (d ≡ data_of m) × Fits m

-- the data are the first line of a history of n objects
abbrev pub IsFirstData : Data → ℕ → Type 0
IsFirstData d n = (d ≡ first_data n) × (n < 65536)
