-- The abstract machine of object monitors (JLS SE 8, 17.1 and 17.2): its states, its moves and its runs. It knows
-- no header word, thread index, inflation, place in a call or number of a monitor.
use Rattle.std.specs.Prelude.{◌≡◌, ◌⊎◌, ◌↔◌, ℕ, ◌+◌, ◌*◌, ◌<◌, ◌≤◌, Bool, true, false, if◌then◌else◌}
use Rattle.std.specs.Prelude.{◌==◌, List, [], ◌∷◌, ℤ, pos, ◌≤ℤ◌, nat_abs, Option, Some, None, MatchOption}
use Rattle.std.specs.Option.{option_map}
use Rattle.lock_word.specs.declared.ThreadId.{ThreadId}
use Rattle.lock_word.specs.declared.ObjectId.{ObjectId}
use Rattle.fat_monitor.specs.declared.actions.Cause.{Cause}
use Rattle.fat_monitor.specs.declared.actions.Cause.TheVariants.{NoMonitor, Memory, TooDeep, StillOwner, NoThread}
use Rattle.fat_monitor.specs.declared.actions.Reply.{Reply}
use Rattle.fat_monitor.specs.declared.actions.Reply.TheVariants as reply
use Rattle.fat_monitor.specs.declared.actions.Why.{Why}
use Rattle.fat_monitor.specs.declared.actions.Why.TheVariants as why
use Rattle.fat_monitor.specs.Replies.{yes_or_no}
use Rattle.fast_path.specs.declared.calls.Call.{Call}
use Rattle.fast_path.specs.declared.calls.Call.TheVariants as call
use Rattle.fast_path.specs.Calls.{object_of}
use Rattle.step_core.specs.declared.machine.Doing.{Doing}
use Rattle.step_core.specs.declared.machine.Doing.TheVariants.{Idle, Wants, Waits, Back, Has}
use Rattle.step_core.specs.declared.machine.Move.{Move}
use Rattle.step_core.specs.declared.machine.Move.TheVariants as move

-- a live thread: whether it is interrupted (JLS 17.2.3), and what it is doing
pub record Thread : Type 0 where
  pub flag : Bool
  pub act : Doing

-- an object's monitor: who owns it, and how many times it is locked (JLS 17.1)
pub record Monitor : Type 0 where
  pub owner : Option ThreadId
  pub count : ℕ

-- The live threads, how many objects there are, the monitor of each, and the moment. The wait set of an
-- object (JLS 17.2) is the threads whose act is Waits on it.
pub record State : Type 0 where
  pub thread : ThreadId → Option Thread
  pub objects : ℕ
  pub monitor : ObjectId → Monitor
  pub moment : ℕ

-- nobody owns the monitor
abbrev pub free : Monitor
free = record { owner = None; count = 0 }

-- t owns the monitor, which is locked n times
abbrev pub held : ThreadId → ℕ → Monitor
held t n = record { owner = Some t; count = n }

-- no thread, every monitor free
abbrev pub opening : ℕ → State
opening n = record { thread = λ _. None; objects = n; monitor = λ _. free; moment = 0 }

-- the state with this thread in it
abbrev pub with_thread : State → ThreadId → Option Thread → State
with_thread s t x = record s { thread = λ u. if u.0 == t.0 then x else s.thread u }

-- the state with this monitor at this object
abbrev pub with_monitor : State → ObjectId → Monitor → State
with_monitor s o m = record s { monitor = λ p. if p.0 == o.0 then m else s.monitor p }

-- thread t is live, with this flag and this act
abbrev pub Is : State → ThreadId → Bool → Doing → Type 0
Is s t flag act = s.thread t ≡ Some (record { flag = flag; act = act })

-- the same state, with t's flag and act
abbrev pub now_is : State → ThreadId → Bool → Doing → State
now_is s t flag act = with_thread s t (Some (record { flag = flag; act = act }))

abbrev pub OwnedBy : State → ObjectId → ThreadId → Type 0
OwnedBy s o t = (s.monitor o).owner ≡ Some t

abbrev pub Unowned : State → ObjectId → Type 0
Unowned s o = (s.monitor o).owner ≡ None

-- t has made call c, which has no answer yet
abbrev pub Calls : State → ThreadId → Bool → Call → Type 0
Calls s t flag c = Is s t flag (Wants c)

-- the same state, but t has this reply
abbrev pub with_reply : State → ThreadId → Bool → Reply → State
with_reply s t flag r = now_is s t flag (Has r)

-- the arguments of a wait are in their ranges (JLS 17.2.1)
abbrev pub AreGood : ℤ → ℤ → Type 0
AreGood millis nanos = (pos 0 ≤ℤ millis) × (pos 0 ≤ℤ nanos) × (nanos ≤ℤ pos 999999)

-- when a wait that begins at this moment is over; none for a wait of no limit
abbrev pub over_at : ℕ → ℤ → ℤ → Option ℕ
over_at moment millis nanos =
    let time = nat_abs millis * 1000000 + nat_abs nanos in if time == 0 then None else Some (moment + time)

-- whether a thread is in the wait set of o
abbrev pub waits_on : Doing → ObjectId → Bool
waits_on (Waits p n d) o = p.0 == o.0
waits_on d o = false

abbrev pub is_waiting : Option Thread → ObjectId → Bool
is_waiting None o = false
is_waiting (Some x) o = waits_on x.act o

-- nobody is in the wait set of o
abbrev pub NobodyWaits : State → ObjectId → Type 0
NobodyWaits s o = (u : ThreadId) (flag : Bool) (n : ℕ) (d : Option ℕ) → Is s u flag (Waits o n d) → ⊥

-- what a thread does once all have been taken out of the wait set of o: it comes back, if it was there
abbrev pub after_notify_all : ObjectId → Doing → Doing
after_notify_all o (Waits p n d) = if p.0 == o.0 then Back p n why.Notified else Waits p n d
after_notify_all o Idle = Idle
after_notify_all o (Wants c) = Wants c
after_notify_all o (Back p n w) = Back p n w
after_notify_all o (Has r) = Has r

-- every member of the wait set of o leaves it
abbrev pub all_notified : State → ObjectId → State
all_notified s o = record s {
  thread = λ u. option_map (λ x. record { flag = x.flag; act = after_notify_all o x.act }) (s.thread u);
}

-- what a thread does once it has been interrupted: it comes back, if it waited
abbrev pub after_interrupt : Doing → Doing
after_interrupt (Waits o n d) = Back o n why.Interrupted
after_interrupt Idle = Idle
after_interrupt (Wants c) = Wants c
after_interrupt (Back o n w) = Back o n w
after_interrupt (Has r) = Has r

-- the same thread, interrupted
abbrev pub with_interrupt : Thread → Thread
with_interrupt x = record { flag = true; act = after_interrupt x.act }

-- what a thread that comes back replies, and its flag then: an interrupt that ended its wait is forgotten
abbrev pub reply_of : Why → Reply
reply_of why.Notified = reply.WaitOver
reply_of why.Interrupted = reply.Interrupted
reply_of why.Elapsed = reply.WaitOver
reply_of why.Spurious = reply.WaitOver

abbrev pub flag_back : Why → Bool → Bool
flag_back why.Notified flag = flag
flag_back why.Interrupted flag = false
flag_back why.Elapsed flag = flag
flag_back why.Spurious flag = flag

-- the object whose owner alone may make this call
abbrev pub owner_only : Call → Option ObjectId
owner_only (call.Exit o) = Some o
owner_only (call.Wait o millis nanos) = Some o
owner_only (call.Notify o) = Some o
owner_only (call.NotifyAll o) = Some o
owner_only c = None

-- the object that a call names, if it names one, exists
abbrev pub Exists : ℕ → Call → Type 0
Exists n c = MatchOption (object_of c) (Unit {0}) (λ o. o.0 < n)

-- the object that an act names, if it names one, exists
abbrev pub ActExists : ℕ → Doing → Type 0
ActExists n (Wants c) = Exists n c
ActExists n (Waits o holds d) = o.0 < n
ActExists n (Back o holds w) = o.0 < n
ActExists n d = Unit {0}

-- t may be refused for this cause
abbrev pub MayRefuse : State → ThreadId → Call → Cause → Type 0
MayRefuse s t (call.Enter o) NoMonitor = OwnedBy s o t
MayRefuse s t (call.Enter o) Memory = OwnedBy s o t
MayRefuse s t (call.Enter o) TooDeep = OwnedBy s o t × ((s.monitor o).count ≡ 65535)
MayRefuse s t (call.Wait o millis nanos) NoMonitor = OwnedBy s o t × AreGood millis nanos
MayRefuse s t (call.Wait o millis nanos) Memory = OwnedBy s o t × AreGood millis nanos
MayRefuse s t (call.Interrupt u) NoThread = s.thread u ≡ None
MayRefuse s t (call.IsInterrupted u) NoThread = s.thread u ≡ None
MayRefuse s t call.End StillOwner = (o : ObjectId) × OwnedBy s o t
MayRefuse s t c cause = ⊥

-- this is the answer to the question that t asks: does it own the object, or is that thread interrupted?
abbrev pub IsAnswer : State → ThreadId → Call → Bool → Type 0
IsAnswer s t (call.Holds o) answer = (answer ≡ true) ↔ OwnedBy s o t
IsAnswer s t (call.IsInterrupted u) answer = (x : Thread) × (s.thread u ≡ Some x) × (answer ≡ x.flag)
IsAnswer s t c answer = ⊥

-- From s the machine may make this move, which leads to s'. Whatever a row does not name stays.
abbrev pub Steps : State → Move → State → Type 0
Steps s (move.Attach t) s' = (s.thread t ≡ None) × (s' ≡ now_is s t false Idle)
Steps s (move.Call t c) s' =
    (flag : Bool) × Is s t flag Idle × Exists s.objects c × (s' ≡ now_is s t flag (Wants c))
Steps s (move.Return t reply.Ended) s' = (flag : Bool) × Is s t flag (Has reply.Ended) × (s' ≡ with_thread s t None)
Steps s (move.Return t r) s' = (flag : Bool) × Is s t flag (Has r) × (s' ≡ now_is s t flag Idle)
Steps s (move.Lock t) s' =
    (flag : Bool) × (o : ObjectId) × Calls s t flag (call.Enter o)
    × (Unowned s o ⊎ OwnedBy s o t) × ((s.monitor o).count < 65535)
    × (s' ≡ with_monitor (with_reply s t flag reply.Entered) o (held t ((s.monitor o).count + 1)))
Steps s (move.Unlock t) s' =
    (flag : Bool) × (o : ObjectId) × (n : ℕ) × Calls s t flag (call.Exit o) × (s.monitor o ≡ held t (n + 1))
    × (s' ≡ with_monitor (with_reply s t flag reply.Exited) o (if n == 0 then free else held t n))
Steps s (move.Illegal t) s' =
    (flag : Bool) × (c : Call) × (o : ObjectId) × Calls s t flag c
    × (owner_only c ≡ Some o) × (OwnedBy s o t → ⊥)
    × (s' ≡ with_reply s t flag reply.IllegalMonitorState)
Steps s (move.BadArgument t) s' =
    (flag : Bool) × (o : ObjectId) × (millis nanos : ℤ) × Calls s t flag (call.Wait o millis nanos)
    × OwnedBy s o t × (AreGood millis nanos → ⊥)
    × (s' ≡ with_reply s t flag reply.IllegalArgument)
Steps s (move.Early t) s' =
    (o : ObjectId) × (millis nanos : ℤ) × Calls s t true (call.Wait o millis nanos) × OwnedBy s o t
    × AreGood millis nanos
    × (s' ≡ with_reply s t false reply.Interrupted)
Steps s (move.Wait t) s' =
    (o : ObjectId) × (millis nanos : ℤ) × Calls s t false (call.Wait o millis nanos) × OwnedBy s o t
    × AreGood millis nanos
    × (s' ≡ with_monitor (now_is s t false (Waits o (s.monitor o).count (over_at s.moment millis nanos))) o free)
Steps s (move.Notify t (Some u)) s' =
    (flag : Bool) × (o : ObjectId) × Calls s t flag (call.Notify o) × OwnedBy s o t
    × (other : Bool) × (n : ℕ) × (d : Option ℕ) × Is s u other (Waits o n d)
    × (s' ≡ now_is (with_reply s t flag reply.Notified) u other (Back o n why.Notified))
Steps s (move.Notify t None) s' =
    (flag : Bool) × (o : ObjectId) × Calls s t flag (call.Notify o) × OwnedBy s o t × NobodyWaits s o
    × (s' ≡ with_reply s t flag reply.Notified)
Steps s (move.NotifyAll t) s' =
    (flag : Bool) × (o : ObjectId) × Calls s t flag (call.NotifyAll o) × OwnedBy s o t
    × (s' ≡ with_reply (all_notified s o) t flag reply.Notified)
Steps s (move.Interrupt t) s' =
    (flag : Bool) × (u : ThreadId) × (x : Thread) × Calls s t flag (call.Interrupt u) × (s.thread u ≡ Some x)
    × (s' ≡ with_reply (with_thread s u (Some (with_interrupt x))) t (if t.0 == u.0 then true else flag) reply.Done)
Steps s (move.TestClear t) s' =
    (flag : Bool) × Calls s t flag call.Interrupted × (s' ≡ with_reply s t false (yes_or_no flag))
Steps s (move.Expire t) s' =
    (flag : Bool) × (o : ObjectId) × (n d : ℕ) × Is s t flag (Waits o n (Some d)) × (d ≤ s.moment)
    × (s' ≡ now_is s t flag (Back o n why.Elapsed))
Steps s (move.Spurious t) s' =
    (flag : Bool) × (o : ObjectId) × (n : ℕ) × (d : Option ℕ) × Is s t flag (Waits o n d)
    × (s' ≡ now_is s t flag (Back o n why.Spurious))
Steps s (move.Relock t) s' =
    (flag : Bool) × (o : ObjectId) × (n : ℕ) × (w : Why) × Is s t flag (Back o n w) × Unowned s o
    × (s' ≡ with_monitor (with_reply s t (flag_back w flag) (reply_of w)) o (held t n))
Steps s (move.Ask t) s' =
    (flag answer : Bool) × (c : Call) × Calls s t flag c × IsAnswer s t c answer
    × (s' ≡ with_reply s t flag (yes_or_no answer))
Steps s (move.Refuse t cause) s' =
    (flag : Bool) × (c : Call) × Calls s t flag c × MayRefuse s t c cause
    × (s' ≡ with_reply s t flag (reply.Refused cause))
Steps s (move.Time now) s' = (s.moment ≤ now) × (s' ≡ record s { moment = now })
Steps s (move.End t) s' =
    (flag : Bool) × Calls s t flag call.End × ((o : ObjectId) → OwnedBy s o t → ⊥)
    × (s' ≡ with_reply s t flag reply.Ended)

-- one move after another
abbrev pub Run : State → List Move → State → Type 0
Run s [] s' = s' ≡ s
Run s (m ∷ ms) s' = (mid : State) × Steps s m mid × Run mid ms s'
