-- Which choices a thread may make, by what it is doing.
use Rattle.std.specs.Prelude.{ℕ, Bool, true, false, not, nat_lt, Option, Some, None}
use Rattle.std.specs.Option.{option_map}
use Rattle.lock_word.specs.declared.ThreadId.{ThreadId}
use Rattle.step_core.specs.declared.machine.Doing.{Doing}
use Rattle.step_core.specs.declared.machine.Doing.TheVariants as doing
use Rattle.step_core.specs.Machine.{Thread}
use Rattle.step_core.specs.Shown.{shown}
use Rattle.step_core.specs.World.{WorldState}
use Rattle.explore.specs.declared.programs.Choice.{Choice}
use Rattle.explore.specs.declared.programs.Choice.TheVariants as choice

-- what a thread of a world is doing; None where it is not live
abbrev pub doing_at : WorldState → ThreadId → Option Doing
doing_at w t = option_map (λ (x : Thread). x.act) ((shown w).thread t)

-- whether a wait with this deadline is over; one without is not
abbrev pub is_over : ℕ → Option ℕ → Bool
is_over now None = false
is_over now (Some d) = not (nat_lt now d)

-- a thread that does nothing begins a call
abbrev pub may_begin : Doing → Bool
may_begin doing.Idle = true
may_begin (doing.Wants c) = false
may_begin (doing.Waits o n d) = false
may_begin (doing.Back o n why) = false
may_begin (doing.Has r) = false

-- one that is in a call goes on, but for one that waits or comes back
abbrev pub may_go : Doing → Bool
may_go doing.Idle = false
may_go (doing.Wants c) = true
may_go (doing.Waits o n d) = false
may_go (doing.Back o n why) = false
may_go (doing.Has r) = true

-- a wait expires whose deadline has come
abbrev pub may_expire : ℕ → Doing → Bool
may_expire now doing.Idle = false
may_expire now (doing.Wants c) = false
may_expire now (doing.Waits o n d) = is_over now d
may_expire now (doing.Back o n why) = false
may_expire now (doing.Has r) = false

-- any wait may end for no reason
abbrev pub may_wake : Doing → Bool
may_wake doing.Idle = false
may_wake (doing.Wants c) = false
may_wake (doing.Waits o n d) = true
may_wake (doing.Back o n why) = false
may_wake (doing.Has r) = false

-- a live thread may make this choice, at this moment
abbrev pub allows_live : Choice → Doing → ℕ → Bool
allows_live (choice.Begin k) d now = may_begin d
allows_live (choice.Go k) d now = may_go d
allows_live (choice.Expire k) d now = may_expire now d
allows_live (choice.Spurious k) d now = may_wake d
allows_live choice.Tick d now = true

-- A thread that is not live may make no choice; a tick is no thread's.
abbrev pub allows_none : Choice → Bool
allows_none (choice.Begin k) = false
allows_none (choice.Go k) = false
allows_none (choice.Expire k) = false
allows_none (choice.Spurious k) = false
allows_none choice.Tick = true

-- Whether a choice may be made while its thread does this.
abbrev pub allows : Choice → Option Doing → ℕ → Bool
allows c None now = allows_none c
allows c (Some d) now = allows_live c d now
