-- What a loaded word calls for.
--                        Free                  Thin, own index                          Thin, another's       Fat m
--     Enter              exchange for Thin 0   store count + 1; at the greatest bind     spin                  act at m
--     Exit               IllegalMonitorState   store count - 1; at count 0 store Free   IllegalMonitorState   act at m
--     Wait               IllegalMonitorState   bind; IllegalArgument out of range       IllegalMonitorState   act at m
--     Notify, NotifyAll  IllegalMonitorState   Notified                                 IllegalMonitorState   act at m
--     Holds              No                    Yes                                      No                    act at m
use Rattle.std.specs.Prelude.{ℕ, ◌+◌, ◌-◌, if◌then◌else◌, ◌==◌, nat_lt}
use Rattle.lock_word.specs.declared.Lock.{Lock}
use Rattle.lock_word.specs.declared.Lock.TheVariants as lock
use Rattle.lock_word.specs.declared.Split.{Split}
use Rattle.lock_word.specs.Layout.{greatest_count}
use Rattle.fat_monitor.specs.declared.actions.Reply.TheVariants.{Yes, No, Notified, IllegalMonitorState}
use Rattle.fat_monitor.specs.declared.actions.Reply.TheVariants.{IllegalArgument}
use Rattle.fat_monitor.specs.Acting.{are_good}
use Rattle.fast_path.specs.declared.calls.Operation.{Operation}
use Rattle.fast_path.specs.declared.calls.Operation.TheVariants.{Enter, Exit, Wait, Notify, NotifyAll, Holds}
use Rattle.fast_path.specs.declared.Next.{Next}
use Rattle.fast_path.specs.declared.Next.TheVariants.{Reply, Cas, Store, Bind, Fat, Spin}

-- The columns of the table. Nobody owns the object:
abbrev pub when_free : Operation → ℕ → Next
when_free Enter me = Cas (lock.Thin me 0)
when_free Exit me = Reply IllegalMonitorState
when_free (Wait millis nanos) me = Reply IllegalMonitorState
when_free Notify me = Reply IllegalMonitorState
when_free NotifyAll me = Reply IllegalMonitorState
when_free Holds me = Reply No

-- the caller owns it thinly, and holds it c + 1 times:
abbrev pub when_own : Split → Operation → ℕ → ℕ → Next
when_own s Enter me c = if nat_lt c (greatest_count s) then Store (lock.Thin me (c + 1)) else Bind
when_own s Exit me c = if nat_lt 0 c then Store (lock.Thin me (c - 1)) else Store lock.Free
when_own s (Wait millis nanos) me c = if are_good millis nanos then Bind else Reply IllegalArgument
when_own s Notify me c = Reply Notified
when_own s NotifyAll me c = Reply Notified
when_own s Holds me c = Reply Yes

-- another thread owns it thinly:
abbrev pub when_anothers : Operation → Next
when_anothers Enter = Spin
when_anothers Exit = Reply IllegalMonitorState
when_anothers (Wait millis nanos) = Reply IllegalMonitorState
when_anothers Notify = Reply IllegalMonitorState
when_anothers NotifyAll = Reply IllegalMonitorState
when_anothers Holds = Reply No

-- what this lock calls for, where the index of the caller is me
abbrev pub next_of : Split → Operation → Lock → ℕ → Next
next_of s p lock.Free me = when_free p me
next_of s p (lock.Thin i n) me = if i == me then when_own s p me n else when_anothers p
next_of s p (lock.Fat m) me = Fat m
