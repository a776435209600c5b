-- The numbers of the fat monitors, and of an attached thread.
use Rattle.std.specs.Prelude.{◌≡◌, ℕ, ◌+◌, ◌/◌, ◌%◌, ◌^◌, Bool, true, false, List, [], ◌∷◌, ◌++◌, length, take}
use Rattle.std.specs.Prelude.{Option, Some, None, is_some}
use Rattle.std.specs.FinMap as map
use Rattle.lock_word.specs.declared.ThreadId.{ThreadId}
use Rattle.wait_lines.specs.declared.Role.TheVariants.{Entry, Waiting as WaitSet}
use Rattle.wait_lines.specs.Lines.{LineMap, line}
use Rattle.fat_monitor.specs.declared.actions.Why.{Why}
use Rattle.fat_monitor.specs.declared.actions.Why.TheVariants as why
use Rattle.fat_monitor.specs.declared.actions.Reply.{Reply}
use Rattle.fat_monitor.specs.declared.actions.Reply.TheVariants as reply
use Rattle.fat_monitor.specs.declared.actions.Post.{Post}
use Rattle.fat_monitor.specs.declared.actions.Post.TheVariants.{Out, Entering, Waiting, Back, Granted}
use Rattle.fat_monitor.specs.declared.monitors.Monitor.{Monitor}
use Rattle.fat_monitor.specs.Names.{cause_number}
use Rattle.fat_monitor.specs.FatState.{FatState, flag_at, post_at}

-- the list has this front
abbrev pub BeginsWith : List ℕ → List ℕ → Type 0
BeginsWith all front = take (length front) all ≡ front

abbrev pub truth_number : Bool → ℕ
truth_number false = 0
truth_number true = 1

abbrev pub why_number : Why → ℕ
why_number why.Notified = 0
why_number why.Interrupted = 1
why_number why.Elapsed = 2
why_number why.Spurious = 3

-- a refusal has the number of its cause: these begin at 11
abbrev pub reply_number : Reply → ℕ
reply_number reply.Entered = 0
reply_number reply.Exited = 1
reply_number reply.WaitOver = 2
reply_number reply.Interrupted = 3
reply_number reply.Notified = 4
reply_number reply.Yes = 5
reply_number reply.No = 6
reply_number reply.Done = 7
reply_number reply.Ended = 8
reply_number reply.IllegalMonitorState = 9
reply_number reply.IllegalArgument = 10
reply_number (reply.Refused c) = cause_number c

-- a deadline has 128 bits: the high 64, and then the low ones
abbrev pub deadline_numbers : Option ℕ → List ℕ
deadline_numbers None = 0 ∷ []
deadline_numbers (Some d) = 1 ∷ d / 2 ^ 64 ∷ d % 2 ^ 64 ∷ []

abbrev pub post_numbers : Post → List ℕ
post_numbers Out = 0 ∷ []
post_numbers (Entering m) = 1 ∷ m ∷ []
post_numbers (Waiting m n d) = 2 ∷ m ∷ n ∷ deadline_numbers d
post_numbers (Back m n w) = 3 ∷ m ∷ n ∷ why_number w ∷ []
post_numbers (Granted r) = 4 ∷ reply_number r ∷ []

-- of a thread with this flag and this post, and of an attached thread
abbrev pub record_numbers : Bool → Post → List ℕ
record_numbers flag p = truth_number flag ∷ post_numbers p

abbrev pub thread_numbers : FatState → ThreadId → List ℕ
thread_numbers f t = record_numbers (flag_at f t) (post_at f t)

-- 0 for no thread
abbrev pub owner_number : Option ThreadId → ℕ
owner_number None = 0
owner_number (Some t) = t.0 + 1

-- the threads of a line, and then 0
abbrev pub line_numbers : List ThreadId → List ℕ
line_numbers [] = 0 ∷ []
line_numbers (t ∷ ts) = (t.0 + 1) ∷ line_numbers ts

-- a monitor with its entry line and its wait set
abbrev pub monitor_numbers : LineMap → ℕ → Monitor → List ℕ
monitor_numbers lines m b =
    b.object.0 ∷ owner_number b.owner ∷ b.holds
    ∷ (line_numbers (line lines m Entry) ++ line_numbers (line lines m WaitSet))

-- the monitors from this number on
abbrev pub monitors_numbers : LineMap → ℕ → List Monitor → List ℕ
monitors_numbers lines m [] = []
monitors_numbers lines m (b ∷ bs) = monitor_numbers lines m b ++ monitors_numbers lines (m + 1) bs

-- what is not of a single thread
abbrev pub fat_numbers : FatState → List ℕ
fat_numbers f =
    f.moment ∷ f.limit ∷ f.spare ∷ f.standing.reservations ∷ length f.monitors
    ∷ monitors_numbers f.standing.lines 0 f.monitors

-- exactly the attached threads have flags
abbrev pub AreFlagged : FatState → Type 0
AreFlagged f = (q : ℕ) → is_some (map.get f.flags q) ≡ is_some (map.get f.threads q)
