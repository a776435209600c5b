-- The two edges of a call, its begin and its return, and what a thread does past them.
use Rattle.std.specs.Prelude.{if◌then◌else◌, Option, Some, None}
use Rattle.std.specs.FinMap as map
use Rattle.lock_word.specs.declared.ThreadId.{ThreadId}
use Rattle.step_core.specs.declared.machine.Doing.{Doing}
use Rattle.step_core.specs.declared.machine.Doing.TheVariants.{Idle, Wants, Waits, Back, Has}
use Rattle.jls_check.specs.declared.threads.CallEdge.{CallEdge}
use Rattle.jls_check.specs.declared.threads.CallEdge.TheVariants.{Begins, Returns}
use Rattle.jls_check.specs.declared.threads.ThreadRecord.{ThreadRecord}
use Rattle.jls_check.specs.LiveThreads.{LiveThreads}
use Rattle.jls_check.specs.Taking.{has_reply}

-- what a thread that did this does then; None where it may not do so
abbrev pub after_edge : CallEdge → Doing → Option Doing
after_edge (Begins c) Idle = Some (Wants c)
after_edge (Begins c) (Wants d) = None
after_edge (Begins c) (Waits o n d) = None
after_edge (Begins c) (Back o n w) = None
after_edge (Begins c) (Has r) = None
after_edge (Returns r) d = if has_reply d r then Some Idle else None

abbrev pub with_act : ThreadRecord → Doing → ThreadRecord
with_act r d = record { live = record { flag = r.live.flag; act = d }; owned = r.owned }

-- the same, also where the edge is refused
abbrev pub crossed_record : ThreadRecord → Option Doing → ThreadRecord
crossed_record r None = r
crossed_record r (Some d) = with_act r d

abbrev pub edge_in : CallEdge → Option ThreadRecord → Option Doing
edge_in u None = None
edge_in u (Some r) = after_edge u r.live.act

-- what thread t does then
abbrev pub edge_of : LiveThreads → ThreadId → CallEdge → Option Doing
edge_of l t u = edge_in u (map.get l t.0)

abbrev pub crossed_in : LiveThreads → ThreadId → CallEdge → Option ThreadRecord → LiveThreads
crossed_in l t u None = l
crossed_in l t u (Some r) = map.insert l t.0 (crossed_record r (after_edge u r.live.act))

abbrev pub crossed : LiveThreads → ThreadId → CallEdge → LiveThreads
crossed l t u = crossed_in l t u (map.get l t.0)
