-- What a checker knows, and the state of the abstract machine that it shows.
use Rattle.std.specs.Prelude.{◌≡◌, ℕ, ◌^◌, ◌<◌, Bool, List, length, replicate, nat_lt, if◌then◌else◌}
use Rattle.std.specs.Prelude.{Option, Some, None}
use Rattle.std.specs.FinMap as map
use Rattle.std.specs.Option.{option_map}
use Rattle.lock_word.specs.declared.ThreadId.{ThreadId}
use Rattle.lock_word.specs.declared.ObjectId.{ObjectId}
use Rattle.fat_monitor.specs.declared.actions.Reply.{Reply}
use Rattle.fat_monitor.specs.declared.actions.Reply.TheVariants.{Ended}
use Rattle.step_core.specs.declared.machine.Doing.{Doing}
use Rattle.step_core.specs.declared.machine.Doing.TheVariants.{Has}
use Rattle.step_core.specs.Machine.{State, Thread, Monitor, ActExists}
use Rattle.jls_check.specs.declared.threads.Live.{Live}
use Rattle.jls_check.specs.declared.monitors.Held.{Held}
use Rattle.jls_check.specs.declared.monitors.ObjectRecord.{ObjectRecord}
use Rattle.jls_check.specs.LiveThreads.{LiveThreads, live_of, with_live, owned_of, owning_one_less, owning_one_more}
use Rattle.jls_check.specs.LiveThreads.{waiting_count}
use Rattle.jls_check.specs.Monitors.{untouched, kept_at, waiting_in, with_monitor_held, left, joined}
use Rattle.jls_check.specs.Monitors.{is_owned_by, owned_count}

-- the live threads; what is kept of each object, by its number; and the moment, in nanoseconds
pub record MachineState : Type 0 where
  pub threads : LiveThreads
  pub objects : List ObjectRecord
  pub moment : ℕ

-- no thread, and so many objects, which nobody owns
abbrev pub opening_machine : ℕ → MachineState
opening_machine n = record { threads = map.empty; objects = replicate n untouched; moment = 0 }

-- the monitor of an object, where one that does not exist has the free one
abbrev pub held_at : MachineState → ObjectId → Held
held_at v o = (kept_at v.objects o).held

abbrev pub thread_of : Live → Thread
thread_of x = record { flag = x.flag; act = x.act }

abbrev pub monitor_of : Held → Monitor
monitor_of h = record { owner = h.owner; count = h.count }

-- the shown state
abbrev pub state : MachineState → State
state v = record {
  thread = λ t. option_map thread_of (live_of v.threads t);
  objects = length v.objects;
  monitor = λ o. monitor_of (held_at v o);
  moment = v.moment;
}

-- a thread that does this, if there was one, does it no more
abbrev pub left_by : List ObjectRecord → Option Live → List ObjectRecord
left_by os None = os
left_by os (Some x) = left os x.act

-- the same, with this flag and this act of t
abbrev pub put : MachineState → ThreadId → Bool → Doing → MachineState
put v t flag act = record v {
  threads = with_live v.threads t (record { flag = flag; act = act });
  objects = joined (left_by v.objects (live_of v.threads t)) act;
}

-- the same, but the call of t has this reply
abbrev pub put_reply : MachineState → ThreadId → Bool → Reply → MachineState
put_reply v t flag r = put v t flag (Has r)

-- the same, with this monitor of an object that exists
abbrev pub with_held : MachineState → ObjectId → Held → MachineState
with_held v o h =
    if nat_lt o.0 (length v.objects)
    then record v {
      threads = owning_one_more (owning_one_less v.threads (held_at v o).owner) h.owner;
      objects = with_monitor_held v.objects o h;
    }
    else v

abbrev pub owns : MachineState → ThreadId → ObjectId → Bool
owns v t o = is_owned_by (held_at v o).owner t

-- t is live, and has not ended
abbrev pub MayOwn : LiveThreads → ThreadId → Type 0
MayOwn l t = (x : Live) × (live_of l t ≡ Some x) × (x.act ≡ Has Ended → ⊥)

-- What holds of all that a checker knows. The two counts are those of the shown state.
pub record IsSound (v : MachineState) : Type 0 where
  -- objects are named by numbers of 32 bits
  pub few : length v.objects < 2 ^ 32
  -- every object that a live thread's act names exists
  pub exist : (t : ThreadId) (x : Live) → live_of v.threads t ≡ Some x → ActExists (length v.objects) x.act
  -- a thread that has ended owns nothing
  pub ended : (t : ThreadId) (flag : Bool) → live_of v.threads t ≡ Some (record { flag = flag; act = Has Ended })
      → owned_of v.threads t ≡ 0
  -- of each object, how many threads are in its wait set
  pub waiting : (o : ObjectId) → waiting_in v.objects o ≡ waiting_count v.threads o
  -- of each thread, how many objects it owns
  pub owned : (t : ThreadId) → owned_of v.threads t ≡ owned_count v.objects t
