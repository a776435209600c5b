-- The state of the abstract machine that a world shows.
use Rattle.std.specs.Prelude.{ℕ, ◌+◌, ◌-◌, if◌then◌else◌, Option, Some, None, length}
use Rattle.lock_word.specs.declared.Lock.{Lock}
use Rattle.lock_word.specs.declared.Lock.TheVariants.{Free, Thin, Fat}
use Rattle.thread_index.specs.Indices.{berth_of, holder_at}
use Rattle.lock_word.specs.declared.ThreadId.{ThreadId}
use Rattle.fat_monitor.specs.FatState.{FatState, monitor_at, post_at, flag_at}
use Rattle.fat_monitor.specs.declared.actions.Post.{Post}
use Rattle.fat_monitor.specs.declared.actions.Post.TheVariants.{Out, Entering, Waiting, Back, Granted}
use Rattle.fat_monitor.specs.declared.actions.Reply.TheVariants.{Entered}
use Rattle.fast_path.specs.declared.calls.Call.TheVariants.{Enter, End}
use Rattle.fast_path.specs.Calls.{call_of, call_about}
use Rattle.step_core.specs.declared.machine.Doing.{Doing}
use Rattle.step_core.specs.declared.machine.Doing.TheVariants as doing
use Rattle.step_core.specs.declared.places.Place.{Place}
use Rattle.step_core.specs.declared.places.Place.TheVariants.{Idle, InCall, Ending, AtPost}
use Rattle.step_core.specs.declared.places.Stage.{Stage}
use Rattle.step_core.specs.declared.places.Stage.TheVariants.{Begun, Taking, Storing, Binding, Acting, Won, Bound}
use Rattle.step_core.specs.declared.places.Stage.TheVariants.{Inflated, Direct}
use Rattle.step_core.specs.Machine.{State, Thread, Monitor, free}
use Rattle.step_core.specs.World.{WorldState, place_at, lock_at}

-- What a thread at this stage of a call is doing: a contended enter that has won has its reply.
abbrev pub doing_in : Stage → Doing
doing_in (Begun c contended) = doing.Wants (call_of c)
doing_in (Taking o contended) = doing.Wants (Enter o)
doing_in (Storing c l) = doing.Wants (call_of c)
doing_in (Binding c n) = doing.Wants (call_of c)
doing_in (Acting c m) = doing.Wants (call_of c)
doing_in (Won o) = doing.Has Entered
doing_in (Bound c won m) = if won then doing.Has Entered else doing.Wants (call_of c)
doing_in (Inflated c m) = doing.Wants (call_of c)
doing_in (Direct c) = doing.Wants (call_about c)

-- and at this place, where it is out of every fat action; a thread at its post is not
abbrev pub doing_of : Place → Doing
doing_of Idle = doing.Idle
doing_of (InCall s) = doing_in s
doing_of (Ending n) = doing.Wants End
doing_of AtPost = doing.Idle

-- What a thread is doing with this post, and at this place in its call: in an entry line for an enter it
-- still wants to enter, and once it is granted it has its reply.
abbrev pub act_of : FatState → Post → Place → Doing
act_of f Out p = doing_of p
act_of f (Entering m) p = doing.Wants (Enter (monitor_at f m).object)
act_of f (Waiting m n d) p = doing.Waits (monitor_at f m).object n d
act_of f (Back m n w) p = doing.Back (monitor_at f m).object n w
act_of f (Granted r) p = doing.Has r

-- the thread at a berth
abbrev pub thread_of : WorldState → ThreadId → Option ℕ → Option Thread
thread_of w t None = None
thread_of w t (Some k) =
    Some (record { flag = flag_at w.fats t; act = act_of w.fats (post_at w.fats t) (place_at w k) })

-- who owns an object with this lock, and how often: its word says it alone
abbrev pub monitor_of : WorldState → Lock → Monitor
monitor_of w Free = free
monitor_of w (Thin i c) = record { owner = holder_at w.berths (i - 1); count = c + 1 }
monitor_of w (Fat m) = record { owner = (monitor_at w.fats m).owner; count = (monitor_at w.fats m).holds }

-- the shown state
abbrev pub shown : WorldState → State
shown w = record {
  thread = λ t. thread_of w t (berth_of w.berths t);
  objects = length w.words;
  monitor = λ o. monitor_of w (lock_at w o.0);
  moment = w.fats.moment;
}
