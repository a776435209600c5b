-- The log of the book, and how it replays.
use Rattle.std.specs.Prelude.{◌≡◌, ◌<◌, ◌≤◌, ℕ, zero, suc, List, [], ◌∷◌, Ok}
use Rattle.lock_word.specs.declared.ThreadId.{ThreadId}
use Rattle.fat_monitor.specs.declared.actions.Action.{Action}
use Rattle.fat_monitor.specs.declared.actions.Action.TheVariants as action
use Rattle.fat_monitor.specs.declared.actions.Done.{Done}
use Rattle.fat_monitor.specs.FatState.{FatState, opened, with_thread, with_moment, with_spare, bound_with}
use Rattle.fat_monitor.specs.Acting.{outcome_of, MayAct, NamesBound}
use Rattle.std.specs.Prelude.{length}
use Rattle.live_book.specs.declared.deeds.Deed.{Deed}
use Rattle.live_book.specs.declared.deeds.Deed.TheVariants.{Bound, Acted, Ticked}
use Rattle.live_book.specs.declared.deeds.Logged.{Logged}

abbrev pub thread_numbered : ℕ → ThreadId
thread_numbered n = record { 0 = n }

-- the thread is one of so many, which are numbered from 1 on
abbrev pub IsThreadOf : ℕ → ThreadId → Type 0
IsThreadOf passes t = (1 ≤ t.0) × (t.0 ≤ passes)

-- Threads of the service neither end nor wake spuriously.
abbrev pub IsForBook : Action → Type 0
IsForBook (action.Enter m) = Unit {0}
IsForBook (action.Exit m) = Unit {0}
IsForBook (action.Wait m millis nanos) = Unit {0}
IsForBook (action.Notify m) = Unit {0}
IsForBook (action.NotifyAll m) = Unit {0}
IsForBook (action.Holds m) = Unit {0}
IsForBook (action.Interrupt u) = Unit {0}
IsForBook action.Interrupted = Unit {0}
IsForBook (action.IsInterrupted u) = Unit {0}
IsForBook action.Expire = Unit {0}
IsForBook action.Spurious = ⊥
IsForBook action.Collect = Unit {0}
IsForBook action.End = ⊥

-- The thread may do the deed in this state: a bind takes the next monitor, an action answers what the table of fat
-- actions says, and the moment does not fall.
abbrev pub IsLegal : FatState → ThreadId → Deed → Type 0
IsLegal f t (Bound o n m) = (m ≡ length f.monitors) × (m < f.limit) × (1 ≤ n) × (n ≤ 256)
IsLegal f t (Acted a r) =
    IsForBook a × MayAct f t a × NamesBound f a
    × (d : Done) × ((outcome_of f t a).answer ≡ Ok d) × (r ≡ d.answer)
IsLegal f t (Ticked now) = f.moment ≤ now

-- the state after the deed
abbrev pub after_deed : FatState → ThreadId → Deed → FatState
after_deed f t (Bound o n m) = bound_with f o t n
after_deed f t (Acted a r) = (outcome_of f t a).after
after_deed f t (Ticked now) = with_moment f now

-- the record, each deed legal where it stands and of one of the threads, leads from one state to another
abbrev pub Replays : ℕ → FatState → List Logged → FatState → Type 0
Replays passes f [] g = f ≡ g
Replays passes f (e ∷ es) g =
    IsThreadOf passes e.thread × IsLegal f e.thread e.deed × Replays passes (after_deed f e.thread e.deed) es g

-- the threads 1 to n are attached
abbrev pub with_threads : ℕ → FatState → FatState
with_threads zero f = f
with_threads (suc n) f = with_thread (with_threads n f) (thread_numbered (suc n))

-- all threads are attached, nothing is bound, and there is room for all binds
abbrev pub nothing_bound : ℕ → ℕ → FatState
nothing_bound passes limit = with_spare (with_threads passes (opened limit)) limit
