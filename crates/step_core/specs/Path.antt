-- The path of a call: the atomic steps of its thread that lead from its beginning to its reply.
use Rattle.std.specs.Prelude.{◌≡◌, ◌≢◌, ℕ, ◌+◌, Bool, true, false, List, [], ◌∷◌, Option, Some, None}
use Rattle.lock_word.specs.declared.ObjectId.{ObjectId}
use Rattle.lock_word.specs.declared.Lock.{Lock}
use Rattle.lock_word.specs.declared.Lock.TheVariants.{Free, Thin, Fat}
use Rattle.lock_word.specs.declared.Split.{Split}
use Rattle.lock_word.specs.Layout.{lock_of, with_lock, count_of}
use Rattle.fat_monitor.specs.declared.actions.Cause.{Cause}
use Rattle.fat_monitor.specs.declared.actions.Cause.TheVariants as cause
use Rattle.fat_monitor.specs.declared.actions.Reply.{Reply}
use Rattle.fat_monitor.specs.declared.actions.Reply.TheVariants as reply
use Rattle.fat_monitor.specs.declared.actions.Action.{Action}
use Rattle.fat_monitor.specs.declared.actions.Action.TheVariants as action
use Rattle.fat_monitor.specs.declared.actions.Answer.{Answer}
use Rattle.fat_monitor.specs.declared.actions.Answer.TheVariants as answer
use Rattle.fast_path.specs.declared.calls.MonitorCall.{MonitorCall}
use Rattle.fast_path.specs.declared.calls.Subject.{Subject}
use Rattle.fast_path.specs.declared.Next.{Next}
use Rattle.fast_path.specs.declared.Next.TheVariants as next
use Rattle.fast_path.specs.Table.{next_of}
use Rattle.step_core.specs.declared.places.Place.{Place}
use Rattle.step_core.specs.declared.places.Place.TheVariants.{Idle, InCall, Ending, AtPost}
use Rattle.step_core.specs.declared.places.Stage.TheVariants.{Begun, Taking, Storing, Binding, Acting, Won, Bound}
use Rattle.step_core.specs.declared.places.Stage.TheVariants.{Inflated, Direct}
use Rattle.step_core.specs.declared.steps.Atomic.{Atomic}
use Rattle.step_core.specs.declared.steps.Atomic.TheVariants as atomic
use Rattle.step_core.specs.declared.steps.Did.{Did}
use Rattle.step_core.specs.declared.paths.Point.{Point}
use Rattle.step_core.specs.declared.paths.Point.TheVariants.{At, Expired, Said}
use Rattle.step_core.specs.declared.steps.Step.{Step}
use Rattle.step_core.specs.declared.steps.Step.TheVariants as step
use Rattle.thread_index.specs.Indices.{berth_of}
use Rattle.step_core.specs.World.{WorldState, place_at, is_own}
use Rattle.step_core.specs.Step.{first_place}
use Rattle.step_core.specs.Go.{action_on, action_about, entering, stored_reply}

-- Kinds of atomic step, of a thread with the index me.

-- the load of the word of o
abbrev pub IsLoad : ObjectId → Atomic → Type 0
IsLoad o (atomic.Load p x) = p ≡ o
IsLoad o a = ⊥

-- the exchange of the free word of o for the thread's own, won where it was free and lost where it was not
abbrev pub IsTake : Split → ℕ → ObjectId → Atomic → Type 0
IsTake z me o (atomic.Won p x y) = (p ≡ o) × (lock_of z x.0 ≡ Free) × (y.0 ≡ with_lock z x.0 (Thin me 0))
IsTake z me o (atomic.Lost p x) = (p ≡ o) × (lock_of z x.0 ≢ Free)
IsTake z me o a = ⊥

-- the store of a free or thin word over the thread's own thin one, for which the operation calls
abbrev pub IsStore : Split → ℕ → MonitorCall → Lock → Atomic → Type 0
IsStore z me c l (atomic.Stored p x y) =
    (p ≡ c.object)
    × ((n : ℕ) × (lock_of z x.0 ≡ Thin me n) × (next_of z c.operation (Thin me n) me ≡ next.Store l))
    × (y.0 ≡ with_lock z x.0 l)
IsStore z me c l a = ⊥

-- the store of the word of a fat monitor over the thread's own thin one
abbrev pub IsPublish : Split → ℕ → ObjectId → ℕ → Atomic → Type 0
IsPublish z me o m (atomic.Stored p x y) =
    (p ≡ o) × ((n : ℕ) × (lock_of z x.0 ≡ Thin me n)) × (y.0 ≡ with_lock z x.0 (Fat m))
IsPublish z me o m a = ⊥

-- why a bind is refused: no monitor is left to bind, or memory runs out
abbrev pub IsBindCause : Cause → Type 0
IsBindCause cause.NoMonitor = Unit {0}
IsBindCause cause.Memory = Unit {0}
IsBindCause x = ⊥

-- a bind for o, refused or not
abbrev pub IsBind : ObjectId → Atomic → Type 0
IsBind o (atomic.Bound p m) = p ≡ o
IsBind o (atomic.NotBound p x) = (p ≡ o) × IsBindCause x
IsBind o a = ⊥

-- the action of a call replies or parks
abbrev pub IsTold : Answer → Type 0
IsTold (answer.Reply r) = Unit {0}
IsTold answer.Parked = Unit {0}
IsTold answer.Quiet = ⊥

-- this fat action, which replies or parks
abbrev pub IsAct : Action → Atomic → Type 0
IsAct b (atomic.Acted a x) = (a ≡ b) × IsTold x
IsAct b a = ⊥

-- the collect of a reply
abbrev pub IsCollect : Atomic → Type 0
IsCollect (atomic.Acted action.Collect (answer.Reply r)) = Unit {0}
IsCollect a = ⊥

-- what a parked thread does itself: it collects its reply, or its wait expires
abbrev pub IsAwaited : Atomic → Type 0
IsAwaited (atomic.Acted action.Collect (answer.Reply r)) = Unit {0}
IsAwaited (atomic.Acted action.Expire answer.Quiet) = Unit {0}
IsAwaited a = ⊥

-- what a thread that is to end does: the load of the word of object n, or the action, which replies
abbrev pub IsEnding : ℕ → Atomic → Type 0
IsEnding n (atomic.Load p x) = p.0 ≡ n
IsEnding n (atomic.Acted action.End (answer.Reply r)) = Unit {0}
IsEnding n a = ⊥

-- this atomic step may come at this point
abbrev pub Follows : Split → ℕ → Point → Atomic → Type 0
Follows z me (Said r) a = ⊥
Follows z me Expired a = IsCollect a
Follows z me (At Idle) a = ⊥
Follows z me (At (InCall (Begun c contended))) a = IsLoad c.object a
Follows z me (At (InCall (Taking o contended))) a = IsTake z me o a
Follows z me (At (InCall (Storing c l))) a = IsStore z me c l a
Follows z me (At (InCall (Binding c n))) a = IsBind c.object a
Follows z me (At (InCall (Acting c m))) a = IsAct (action_on c.operation m) a
Follows z me (At (InCall (Won o))) a = IsBind o a
Follows z me (At (InCall (Bound c won m))) a = IsPublish z me c.object m a
Follows z me (At (InCall (Inflated c m))) a = IsAct (action_on c.operation m) a
Follows z me (At (InCall (Direct c))) a = IsAct (action_about c) a
Follows z me (At (Ending n)) a = IsEnding n a
Follows z me (At AtPost) a = IsAwaited a

-- Where the call stands then.

-- after the load of a word with this lock, which calls for this
abbrev pub point_next : MonitorCall → Bool → Lock → Next → Point
point_next c contended k (next.Reply r) = Said r
point_next c contended k next.Spin = At (InCall (Begun c true))
point_next c contended k (next.Cas l) = At (InCall (Taking c.object contended))
point_next c contended k (next.Store l) = At (InCall (Storing c l))
point_next c contended k next.Bind = At (InCall (Binding c (count_of k)))
point_next c contended k (next.Fat m) = At (InCall (Acting c m))

abbrev pub point_loaded : Split → ℕ → MonitorCall → Bool → Atomic → Point
point_loaded z me c contended (atomic.Load p x) =
    point_next c contended (lock_of z x.0) (next_of z c.operation (lock_of z x.0) me)
point_loaded z me c contended a = At Idle

-- after an exchange
abbrev pub point_taken : ObjectId → Bool → Atomic → Point
point_taken o true (atomic.Won p x y) = At (InCall (Won o))
point_taken o false (atomic.Won p x y) = Said reply.Entered
point_taken o contended a = At (InCall (Begun (entering o) true))

-- after a bind; an enter that has won already has what it wants where it is refused
abbrev pub point_bound : MonitorCall → Bool → Atomic → Point
point_bound c won (atomic.Bound p m) = At (InCall (Bound c won m))
point_bound c true (atomic.NotBound p x) = Said reply.Entered
point_bound c false (atomic.NotBound p x) = Said (reply.Refused x)
point_bound c won a = At Idle

-- after the store of the word of a fat monitor
abbrev pub point_published : MonitorCall → Bool → ℕ → Point
point_published c true m = Said reply.Entered
point_published c false m = At (InCall (Inflated c m))

-- after a fat action
abbrev pub point_told : Answer → Point
point_told (answer.Reply r) = Said r
point_told x = At AtPost

abbrev pub point_acted : Atomic → Point
point_acted (atomic.Acted a x) = point_told x
point_acted a = At Idle

-- after what a parked thread does itself
abbrev pub point_waited : Answer → Point
point_waited (answer.Reply r) = Said r
point_waited x = Expired

abbrev pub point_awaited : Atomic → Point
point_awaited (atomic.Acted a x) = point_waited x
point_awaited a = At Idle

-- after what a thread that is to end does: one that owns an object thinly does not end
abbrev pub point_looked : ℕ → Bool → Point
point_looked n true = Said (reply.Refused cause.StillOwner)
point_looked n false = At (Ending (n + 1))

abbrev pub point_ending : Split → ℕ → ℕ → Atomic → Point
point_ending z me n (atomic.Load p x) = point_looked n (is_own (lock_of z x.0) me)
point_ending z me n (atomic.Acted a x) = point_told x
point_ending z me n a = At Idle

-- where the call stands after this atomic step
abbrev pub point_after : Split → ℕ → Point → Atomic → Point
point_after z me (Said r) a = Said r
point_after z me Expired a = point_awaited a
point_after z me (At Idle) a = At Idle
point_after z me (At (InCall (Begun c contended))) a = point_loaded z me c contended a
point_after z me (At (InCall (Taking o contended))) a = point_taken o contended a
point_after z me (At (InCall (Storing c l))) a = Said (stored_reply c.operation)
point_after z me (At (InCall (Binding c n))) a = point_bound c false a
point_after z me (At (InCall (Acting c m))) a = point_acted a
point_after z me (At (InCall (Won o))) a = point_bound (entering o) true a
point_after z me (At (InCall (Bound c won m))) a = point_published c won m
point_after z me (At (InCall (Inflated c m))) a = point_acted a
point_after z me (At (InCall (Direct c))) a = point_acted a
point_after z me (At (Ending n)) a = point_ending z me n a
point_after z me (At AtPost) a = point_awaited a

-- the atomic steps lead from one point to another
abbrev pub Leads : Split → ℕ → Point → List Atomic → Point → Type 0
Leads z me p [] q = p ≡ q
Leads z me p (a ∷ es) q = Follows z me p a × Leads z me (point_after z me p a) es q

-- Where a call begins.
abbrev pub beginning : Subject → Point
beginning s = At (first_place s)

-- the atomic steps are a path of a call with this reply
abbrev pub IsPath : Split → ℕ → Subject → List Atomic → Reply → Type 0
IsPath z me s es r = Leads z me (beginning s) es (Said r)

-- Where a thread stands after a step that left it at this place, with a reply if it has one.
abbrev pub point_of : Option Reply → Place → Point
point_of (Some r) p = Said r
point_of None p = At p

-- The Go of the thread at berth k that did this is one step of the path of its call.
abbrev pub StepsAt : WorldState → Option ℕ → Did → WorldState → Type 0
StepsAt w None d w' = ⊥
StepsAt w (Some k) d w' =
    Follows w.split (k + 1) (At (place_at w k)) d.atomic
    × (point_after w.split (k + 1) (At (place_at w k)) d.atomic ≡ point_of d.reply (place_at w' k))

-- A Go is one step of a path; other steps are not of the thread's own call.
abbrev pub StepsOnPath : WorldState → Step → Did → WorldState → Type 0
StepsOnPath w (step.Go t) d w' = StepsAt w (berth_of w.berths t) d w'
StepsOnPath w s d w' = Unit {0}
