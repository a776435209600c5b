-- The live threads of a checker, by their numbers, and how many objects each of them owns.
use Rattle.std.specs.Prelude.{ℕ, ◌+◌, ◌-◌, Bool, Option, Some, None, count_by, map as list_map}
use Rattle.std.specs.Option.{option_map}
use Rattle.std.specs.List.{list_any}
use Rattle.std.specs.Ordering.{nat_cmp}
use Rattle.std.specs.FinMap as map
use Rattle.lock_word.specs.declared.ThreadId.{ThreadId}
use Rattle.lock_word.specs.declared.ObjectId.{ObjectId}
use Rattle.step_core.specs.Machine.{waits_on, after_notify_all}
use Rattle.jls_check.specs.declared.threads.Live.{Live}
use Rattle.jls_check.specs.declared.threads.ThreadRecord.{ThreadRecord}

abbrev pub LiveThreads : Type 0
LiveThreads = map.FinMap nat_cmp ThreadRecord

abbrev pub live_in : Option ThreadRecord → Option Live
live_in x = option_map (λ (r : ThreadRecord). r.live) x

-- the live thread with a number
abbrev pub live_of : LiveThreads → ThreadId → Option Live
live_of l t = live_in (map.get l t.0)

abbrev pub owned_in : Option ThreadRecord → ℕ
owned_in None = 0
owned_in (Some r) = r.owned

-- how many objects a thread is said to own: none, if it is not live
abbrev pub owned_of : LiveThreads → ThreadId → ℕ
owned_of l t = owned_in (map.get l t.0)

-- with t live, which has this flag and does this; it owns as many objects as before
abbrev pub with_live : LiveThreads → ThreadId → Live → LiveThreads
with_live l t x = map.insert l t.0 (record { live = x; owned = owned_of l t })

abbrev pub without_live : LiveThreads → ThreadId → LiveThreads
without_live l t = map.remove l t.0

-- the same, where t, if it is live, owns so many objects
abbrev pub with_owned_in : LiveThreads → ThreadId → ℕ → Option ThreadRecord → LiveThreads
with_owned_in l t n None = l
with_owned_in l t n (Some r) = map.insert l t.0 (record { live = r.live; owned = n })

abbrev pub with_owned : LiveThreads → ThreadId → ℕ → LiveThreads
with_owned l t n = with_owned_in l t n (map.get l t.0)

-- the same, where this thread, if there is one, owns one object less
abbrev pub owning_one_less : LiveThreads → Option ThreadId → LiveThreads
owning_one_less l None = l
owning_one_less l (Some t) = with_owned l t (owned_of l t - 1)

-- and one more
abbrev pub owning_one_more : LiveThreads → Option ThreadId → LiveThreads
owning_one_more l None = l
owning_one_more l (Some t) = with_owned l t (owned_of l t + 1)

abbrev pub does_wait : ObjectId → ThreadRecord → Bool
does_wait o r = waits_on r.live.act o

-- whether a thread is in the wait set of o
abbrev pub some_waits : LiveThreads → ObjectId → Bool
some_waits l o = list_any (does_wait o) (map.values l)

-- how many threads are in the wait set of o
abbrev pub waiting_count : LiveThreads → ObjectId → ℕ
waiting_count l o = count_by (does_wait o) (map.values l)

-- a thread, once all have been taken out of the wait set of o
abbrev pub notified_record : ObjectId → ThreadRecord → ThreadRecord
notified_record o r = record {
  live = record { flag = r.live.flag; act = after_notify_all o r.live.act };
  owned = r.owned;
}

-- every member of the wait set of o leaves it
abbrev pub all_back : LiveThreads → ObjectId → LiveThreads
all_back l o = map.from_entries (list_map (λ e. (e.0, notified_record o e.1)) (map.entries l))
