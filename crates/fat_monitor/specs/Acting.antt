-- The table of fat actions: what the action of a thread answers, and what it leaves.
use Rattle.std.specs.Prelude.{◌≡◌, ℕ, ◌+◌, ◌-◌, ◌*◌, ◌<◌, Bool, true, false, ◌&&◌, if◌then◌else◌, ◌==◌, nat_lt, ℤ, pos}
use Rattle.std.specs.Prelude.{int_le, nat_abs, List, [], ◌∷◌, length, Option, Some, None, Result, Ok, Err}
use Rattle.lock_word.specs.declared.ThreadId.{ThreadId}
use Rattle.wait_lines.specs.declared.Role.{Role}
use Rattle.wait_lines.specs.declared.Role.TheVariants.{Entry, Waiting as WaitSet}
use Rattle.wait_lines.specs.Lines.{after_join, after_leave}
use Rattle.fat_monitor.specs.declared.actions.Cause.TheVariants.{TooDeep, StillOwner, NoThread}
use Rattle.fat_monitor.specs.declared.actions.Why.{Why}
use Rattle.fat_monitor.specs.declared.actions.Why.TheVariants as why
use Rattle.fat_monitor.specs.declared.actions.Reply.{Reply}
use Rattle.fat_monitor.specs.declared.actions.Reply.TheVariants as reply
use Rattle.fat_monitor.specs.declared.actions.Action.{Action}
use Rattle.fat_monitor.specs.declared.actions.Action.TheVariants as action
use Rattle.fat_monitor.specs.declared.actions.Answer.{Answer}
use Rattle.fat_monitor.specs.declared.actions.Answer.TheVariants as answer
use Rattle.fat_monitor.specs.declared.actions.Post.{Post}
use Rattle.fat_monitor.specs.declared.actions.Post.TheVariants.{Out, Entering, Waiting, Back, Granted}
use Rattle.fat_monitor.specs.declared.actions.Done.{Done}
use Rattle.fat_monitor.specs.declared.actions.ActFault.{ActFault}
use Rattle.fat_monitor.specs.declared.actions.ActFault.TheVariants as fault
use Rattle.fat_monitor.specs.FatState.{FatState, monitor_at, post_of, post_at, flag_at, flag_of, IsAttached, line_of}
use Rattle.fat_monitor.specs.FatState.{first_of, with_owner, with_post, with_flag, with_lines, without_thread}
use Rattle.fat_monitor.specs.FatState.{is_owned_by, owns_one}
use Rattle.fat_monitor.specs.Replies.{yes_or_no}

-- the answer of an action, and the fat state after it
pub record Outcome : Type 0 where
  pub answer : Result Done ActFault
  pub after : FatState

abbrev pub answers : FatState → Answer → Option ThreadId → Option ThreadId → Outcome
answers f a granted chosen =
    record { answer = Ok (record { answer = a; granted = granted; chosen = chosen }); after = f }

-- the call that made the action has this reply, and no other thread is named
abbrev pub replies : FatState → Reply → Outcome
replies f r = answers f (answer.Reply r) None None

-- t stands with this post at the end of a line
abbrev pub after_parking : FatState → ThreadId → Post → ℕ → Role → FatState
after_parking f t p m r = with_lines (with_post f t p) (after_join f.standing.lines t m r)

-- what a wait replies that was ended for this reason
abbrev pub reply_back : Why → Reply
reply_back why.Notified = reply.WaitOver
reply_back why.Interrupted = reply.Interrupted
reply_back why.Elapsed = reply.WaitOver
reply_back why.Spurious = reply.WaitOver

-- How often a thread holds the monitor that it is granted, and what its call replies: one that comes back
-- from a wait has all its holds back, another had asked to enter.
abbrev pub holds_granted : Post → ℕ
holds_granted (Back m n w) = n
holds_granted Out = 1
holds_granted (Entering m) = 1
holds_granted (Waiting m n d) = 1
holds_granted (Granted r) = 1

abbrev pub reply_granted : Post → Reply
reply_granted (Back m n w) = reply_back w
reply_granted Out = reply.Entered
reply_granted (Entering m) = reply.Entered
reply_granted (Waiting m n d) = reply.Entered
reply_granted (Granted r) = reply.Entered

-- an interrupt that ended a wait is forgotten when the wait has its reply
abbrev pub after_settling : FatState → ThreadId → Post → FatState
after_settling f u (Back m n why.Interrupted) = with_flag f u false
after_settling f u (Back m n why.Notified) = f
after_settling f u (Back m n why.Elapsed) = f
after_settling f u (Back m n why.Spurious) = f
after_settling f u Out = f
after_settling f u (Entering m) = f
after_settling f u (Waiting m n d) = f
after_settling f u (Granted r) = f

-- u, which is to have this post, leaves this line of m and becomes the owner of m
abbrev pub after_grant : FatState → ℕ → ThreadId → Post → Role → FatState
after_grant f m u p r =
    with_lines
    (with_post (with_owner (after_settling f u p) m (Some u) (holds_granted p)) u (Granted (reply_granted p)))
    (after_leave f.standing.lines u m r)

-- the owner gives up m, which goes to this thread, the first of the entry line; without one, nobody owns it
abbrev pub after_hand_on : FatState → ℕ → Option ThreadId → FatState
after_hand_on f m None = with_owner f m None 0
after_hand_on f m (Some u) = after_grant f m u (post_at f u) Entry

-- u leaves the wait set of m with this post, and joins the end of the entry line
abbrev pub after_rejoining : FatState → ThreadId → ℕ → Post → FatState
after_rejoining f u m p = with_lines (with_post f u p) (after_join (after_leave f.standing.lines u m WaitSet) u m Entry)

-- A monitor that nobody owns is handed on to the first of its entry line.
abbrev pub after_hand_on_if_free : FatState → ℕ → Option ThreadId → FatState
after_hand_on_if_free f m (Some owner) = f
after_hand_on_if_free f m None = after_hand_on f m (first_of f m Entry)

-- the thread to which it goes so, if there is one
abbrev pub next_if_free : FatState → ℕ → Option ThreadId → Option ThreadId
next_if_free f m (Some owner) = None
next_if_free f m None = first_of f m Entry

-- u leaves the wait set of m with this post: behind an owner it joins the end of the entry line. A monitor that
-- nobody owns it gets at once: nobody stands in the entry line of such a monitor, so it would be the first there
-- to whom the monitor is handed on, as the law of removal says.
abbrev pub after_sending_back : FatState → ThreadId → ℕ → Post → Option ThreadId → FatState
after_sending_back f u m p (Some owner) = after_rejoining f u m p
after_sending_back f u m p None = after_grant f m u p WaitSet

-- u, which has this post, leaves its wait set for this reason, and keeps its holds
abbrev pub after_removal : FatState → ThreadId → Why → Post → FatState
after_removal f u w (Waiting m n d) = after_sending_back f u m (Back m n w) (monitor_at f m).owner
after_removal f u w Out = f
after_removal f u w (Entering m) = f
after_removal f u w (Back m n x) = f
after_removal f u w (Granted r) = f

-- u, where it gets the monitor that it waited on at once: nobody owns it
abbrev pub granted_if_free : ThreadId → Option ThreadId → Option ThreadId
granted_if_free u (Some owner) = None
granted_if_free u None = Some u

abbrev pub granted_by_removal : FatState → ThreadId → Post → Option ThreadId
granted_by_removal f u (Waiting m n d) = granted_if_free u (monitor_at f m).owner
granted_by_removal f u Out = None
granted_by_removal f u (Entering m) = None
granted_by_removal f u (Back m n w) = None
granted_by_removal f u (Granted r) = None

-- each of these threads is notified, one after another
abbrev pub after_removals : FatState → List ThreadId → FatState
after_removals f [] = f
after_removals f (u ∷ us) = after_removals (after_removal f u why.Notified (post_at f u)) us

-- the arguments of a wait are in their ranges (JLS 17.2.1)
abbrev pub are_good : ℤ → ℤ → Bool
are_good millis nanos = int_le (pos 0) millis && int_le (pos 0) nanos && int_le nanos (pos 999999)

-- when a wait that begins at this moment is over; none for a wait of no limit
abbrev pub deadline : ℕ → ℤ → ℤ → Option ℕ
deadline moment millis nanos =
    let time = nat_abs millis * 1000000 + nat_abs nanos in if time == 0 then None else Some (moment + time)

-- what the owner alone may do
abbrev pub by_owner : FatState → ℕ → ThreadId → Outcome → Outcome
by_owner f m t outcome = if is_owned_by (monitor_at f m).owner t then outcome else replies f reply.IllegalMonitorState

-- An enter takes a monitor that nobody owns, counts one more hold of the owner, or parks behind another owner.
abbrev pub enter_outcome : FatState → ThreadId → ℕ → Option ThreadId → Outcome
enter_outcome f t m None = replies (with_owner f m (Some t) 1) reply.Entered
enter_outcome f t m (Some u) =
    if u.0 == t.0
    then (
    if nat_lt (monitor_at f m).holds 65535
    then replies (with_owner f m (Some u) ((monitor_at f m).holds + 1)) reply.Entered
    else replies f (reply.Refused TooDeep))
    else answers (after_parking f t (Entering m) m Entry) answer.Parked None None

-- An exit counts one hold less, or hands the monitor on.
abbrev pub exit_outcome : FatState → ThreadId → ℕ → Outcome
exit_outcome f t m =
    if nat_lt 1 (monitor_at f m).holds
    then replies (with_owner f m (Some t) ((monitor_at f m).holds - 1)) reply.Exited
    else answers (after_hand_on f m (first_of f m Entry)) (answer.Reply reply.Exited) (first_of f m Entry) None

-- A wait of an interrupted thread ends at once, and the interrupt is forgotten. Another joins the wait set
-- with all its holds, and hands the monitor on.
abbrev pub wait_outcome : FatState → ThreadId → ℕ → ℤ → ℤ → Outcome
wait_outcome f t m millis nanos =
    if are_good millis nanos
    then (
    if flag_at f t
    then replies (with_flag f t false) reply.Interrupted
    else
    answers (after_parking (after_hand_on f m (first_of f m Entry)) t
    (Waiting m (monitor_at f m).holds (deadline f.moment millis nanos)) m WaitSet)
    answer.Parked (first_of f m Entry) None)
    else replies f reply.IllegalArgument

-- A notify removes the thread that has waited longest, if one waits.
abbrev pub notify_outcome : FatState → Option ThreadId → Outcome
notify_outcome f None = replies f reply.Notified
notify_outcome f (Some u) =
    answers (after_removal f u why.Notified (post_at f u)) (answer.Reply reply.Notified) None (Some u)

-- An interrupt of a thread with this post, if it is attached, sets its flag, and removes it from its wait set.
abbrev pub interrupt_outcome : FatState → ThreadId → Option Post → Outcome
interrupt_outcome f u None = replies f (reply.Refused NoThread)
interrupt_outcome f u (Some p) =
    answers (after_removal (with_flag f u true) u why.Interrupted p) (answer.Reply reply.Done)
    (granted_by_removal f u p) None

-- the answer to whether a thread with this flag, if it is attached, is interrupted
abbrev pub flag_outcome : FatState → Option Bool → Outcome
flag_outcome f None = replies f (reply.Refused NoThread)
flag_outcome f (Some flag) = replies f (yes_or_no flag)

-- A wait whose deadline has come is over.
abbrev pub not_due : FatState → Outcome
not_due f = record { answer = Err fault.NotDue; after = f }

abbrev pub expire_outcome : FatState → ThreadId → Post → Outcome
expire_outcome f t (Waiting m n (Some d)) =
    if nat_lt f.moment d
    then not_due f
    else answers (after_removal f t why.Elapsed (Waiting m n (Some d))) answer.Quiet
    (granted_by_removal f t (Waiting m n (Some d))) None
expire_outcome f t (Waiting m n None) = not_due f
expire_outcome f t Out = not_due f
expire_outcome f t (Entering m) = not_due f
expire_outcome f t (Back m n w) = not_due f
expire_outcome f t (Granted r) = not_due f

-- A wait may be over without any reason that a program can see: a spurious wake-up (JLS 17.2.1).
abbrev pub not_waiting : FatState → Outcome
not_waiting f = record { answer = Err fault.NotWaiting; after = f }

abbrev pub spurious_outcome : FatState → ThreadId → Post → Outcome
spurious_outcome f t (Waiting m n d) =
    answers (after_removal f t why.Spurious (Waiting m n d)) answer.Quiet (granted_by_removal f t (Waiting m n d)) None
spurious_outcome f t Out = not_waiting f
spurious_outcome f t (Entering m) = not_waiting f
spurious_outcome f t (Back m n w) = not_waiting f
spurious_outcome f t (Granted r) = not_waiting f

-- A collect takes the reply that was granted.
abbrev pub collect_outcome : FatState → ThreadId → Post → Outcome
collect_outcome f t (Granted r) = replies (with_post f t Out) r
collect_outcome f t Out = record { answer = Err fault.Parked; after = f }
collect_outcome f t (Entering m) = record { answer = Err fault.Parked; after = f }
collect_outcome f t (Waiting m n d) = record { answer = Err fault.Parked; after = f }
collect_outcome f t (Back m n w) = record { answer = Err fault.Parked; after = f }

-- The table: the action of thread t.
abbrev pub outcome_of : FatState → ThreadId → Action → Outcome
outcome_of f t (action.Enter m) = enter_outcome f t m (monitor_at f m).owner
outcome_of f t (action.Exit m) = by_owner f m t (exit_outcome f t m)
outcome_of f t (action.Wait m millis nanos) = by_owner f m t (wait_outcome f t m millis nanos)
outcome_of f t (action.Notify m) = by_owner f m t (notify_outcome f (first_of f m WaitSet))
outcome_of f t (action.NotifyAll m) = by_owner f m t (replies (after_removals f (line_of f m WaitSet)) reply.Notified)
outcome_of f t (action.Holds m) = replies f (yes_or_no (is_owned_by (monitor_at f m).owner t))
outcome_of f t (action.Interrupt u) = interrupt_outcome f u (post_of f u)
outcome_of f t action.Interrupted = replies (with_flag f t false) (yes_or_no (flag_at f t))
outcome_of f t (action.IsInterrupted u) = flag_outcome f (flag_of f u)
outcome_of f t action.Expire = expire_outcome f t (post_at f t)
outcome_of f t action.Spurious = spurious_outcome f t (post_at f t)
outcome_of f t action.Collect = collect_outcome f t (post_at f t)
outcome_of f t action.End =
    if owns_one f.monitors t then replies f (reply.Refused StillOwner) else replies (without_thread f t) reply.Ended

-- the monitor that an action names, if it names one, is bound
abbrev pub NamesBound : FatState → Action → Type 0
NamesBound f (action.Enter m) = m < length f.monitors
NamesBound f (action.Exit m) = m < length f.monitors
NamesBound f (action.Wait m millis nanos) = m < length f.monitors
NamesBound f (action.Notify m) = m < length f.monitors
NamesBound f (action.NotifyAll m) = m < length f.monitors
NamesBound f (action.Holds m) = m < length f.monitors
NamesBound f (action.Interrupt u) = Unit {0}
NamesBound f action.Interrupted = Unit {0}
NamesBound f (action.IsInterrupted u) = Unit {0}
NamesBound f action.Expire = Unit {0}
NamesBound f action.Spurious = Unit {0}
NamesBound f action.Collect = Unit {0}
NamesBound f action.End = Unit {0}

-- the thread may make the action: it is attached, and out of every other action but for an Expire, a Spurious
-- and a Collect
abbrev pub MayAct : FatState → ThreadId → Action → Type 0
MayAct f t action.Expire = IsAttached f t
MayAct f t action.Spurious = IsAttached f t
MayAct f t action.Collect = IsAttached f t
MayAct f t (action.Enter m) = post_of f t ≡ Some Out
MayAct f t (action.Exit m) = post_of f t ≡ Some Out
MayAct f t (action.Wait m millis nanos) = post_of f t ≡ Some Out
MayAct f t (action.Notify m) = post_of f t ≡ Some Out
MayAct f t (action.NotifyAll m) = post_of f t ≡ Some Out
MayAct f t (action.Holds m) = post_of f t ≡ Some Out
MayAct f t (action.Interrupt u) = post_of f t ≡ Some Out
MayAct f t action.Interrupted = post_of f t ≡ Some Out
MayAct f t (action.IsInterrupted u) = post_of f t ≡ Some Out
MayAct f t action.End = post_of f t ≡ Some Out
