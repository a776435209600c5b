-- The places of the record that are kept, so that an owner can leave and a parked call can return.
use Rattle.std.specs.Prelude.{ℕ, ◌+◌, ◌-◌, if◌then◌else◌, sum_by}
use Rattle.std.specs.FinMap as map
use Rattle.lock_word.specs.declared.ThreadId.{ThreadId}
use Rattle.fat_monitor.specs.declared.actions.Reply.TheVariants as reply
use Rattle.fat_monitor.specs.declared.actions.Answer.{Answer}
use Rattle.fat_monitor.specs.declared.actions.Answer.TheVariants as answer
use Rattle.fat_monitor.specs.declared.actions.Action.{Action}
use Rattle.fat_monitor.specs.declared.actions.Action.TheVariants as action
use Rattle.fat_monitor.specs.declared.actions.Post.{Post}
use Rattle.fat_monitor.specs.declared.actions.Post.TheVariants.{Out, Entering, Waiting, Back, Granted}
use Rattle.fat_monitor.specs.declared.monitors.Monitor.{Monitor}
use Rattle.fat_monitor.specs.FatState.{FatState, monitor_at, is_owned_by}

-- A thread with this post keeps: for an enter, its collect and its exit; for a wait that gave up n holds, its removal,
-- its collect and n exits; once it is removed, its collect and n exits; once it is granted, its collect.
abbrev pub kept_by : Post → ℕ
kept_by Out = 0
kept_by (Entering m) = 2
kept_by (Waiting m n d) = 2 + n
kept_by (Back m n w) = 1 + n
kept_by (Granted r) = 1

-- an owner keeps a place for each of its holds; a monitor that nobody owns has no holds
abbrev pub kept_by_owners : FatState → ℕ
kept_by_owners f = sum_by (λ (b : Monitor). b.holds) f.monitors

abbrev pub kept_by_threads : FatState → ℕ
kept_by_threads f = sum_by kept_by (map.values f.threads)

abbrev pub kept_of : FatState → ℕ
kept_of f = kept_by_owners f + kept_by_threads f

-- How many free places an action needs. An exit of the owner, an expire and a collect use a place that was kept.
abbrev pub need : FatState → ThreadId → Action → ℕ
need f t (action.Enter m) = 3
need f t (action.Exit m) = if is_owned_by (monitor_at f m).owner t then 0 else 1
need f t (action.Wait m millis nanos) = 3
need f t (action.Notify m) = 1
need f t (action.NotifyAll m) = 1
need f t (action.Holds m) = 1
need f t (action.Interrupt u) = 1
need f t action.Interrupted = 1
need f t (action.IsInterrupted u) = 1
need f t action.Expire = 0
need f t action.Spurious = 1
need f t action.Collect = 0
need f t action.End = 1

-- how many places more are kept after an enter, or a wait, with this answer
abbrev pub gained_by_enter : Answer → ℕ
gained_by_enter (answer.Reply reply.Entered) = 1
gained_by_enter (answer.Reply r) = 0
gained_by_enter answer.Parked = 2
gained_by_enter answer.Quiet = 0

abbrev pub gained_by_wait : Answer → ℕ
gained_by_wait (answer.Reply r) = 0
gained_by_wait answer.Parked = 2
gained_by_wait answer.Quiet = 0

-- and after any action
abbrev pub gained : Action → Answer → ℕ
gained (action.Enter m) a = gained_by_enter a
gained (action.Exit m) a = 0
gained (action.Wait m millis nanos) a = gained_by_wait a
gained (action.Notify m) a = 0
gained (action.NotifyAll m) a = 0
gained (action.Holds m) a = 0
gained (action.Interrupt u) a = 0
gained action.Interrupted a = 0
gained (action.IsInterrupted u) a = 0
gained action.Expire a = 0
gained action.Spurious a = 0
gained action.Collect a = 0
gained action.End a = 0

-- how many less are kept after an exit with this answer
abbrev pub freed_by_exit : Answer → ℕ
freed_by_exit (answer.Reply reply.Exited) = 1
freed_by_exit (answer.Reply r) = 0
freed_by_exit answer.Parked = 0
freed_by_exit answer.Quiet = 0

-- and after any action, before which so many threads waited, and after which so many still wait: one less for each
-- thread that it took out of a wait set
abbrev pub freed : Action → Answer → ℕ → ℕ → ℕ
freed (action.Enter m) a waited waiting = 0
freed (action.Exit m) a waited waiting = freed_by_exit a
freed (action.Wait m millis nanos) a waited waiting = 0
freed (action.Notify m) a waited waiting = waited - waiting
freed (action.NotifyAll m) a waited waiting = waited - waiting
freed (action.Holds m) a waited waiting = 0
freed (action.Interrupt u) a waited waiting = waited - waiting
freed action.Interrupted a waited waiting = 0
freed (action.IsInterrupted u) a waited waiting = 0
freed action.Expire a waited waiting = waited - waiting
freed action.Spurious a waited waiting = waited - waiting
freed action.Collect a waited waiting = 1
freed action.End a waited waiting = 0
