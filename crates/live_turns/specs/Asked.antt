-- What a desk answers, and what a turn tells of it.
use Rattle.std.specs.Prelude.{◌≡◌, ◌≤◌, ℕ, Bool, false, nat_le, List, [], ◌∷◌, ◌++◌, length, Result, Ok, Err, IfOk, IfErr, OnOk, OnErr}
use Rattle.lock_word.specs.declared.ObjectId.{ObjectId}
use Rattle.lock_word.specs.declared.ThreadId.{ThreadId}
use Rattle.fat_monitor.specs.Acting.{outcome_of}
use Rattle.fat_monitor.specs.Binding.{Binding}
use Rattle.fat_monitor.specs.declared.actions.Done.{Done}
use Rattle.fat_monitor.specs.declared.actions.Action.{Action}
use Rattle.fat_monitor.specs.declared.actions.Action.TheVariants as action
use Rattle.fat_monitor.specs.declared.actions.Answer.{Answer}
use Rattle.fat_monitor.specs.declared.actions.Answer.TheVariants as answer
use Rattle.fat_monitor.specs.declared.actions.Cause.TheVariants as cause
use Rattle.fat_monitor.specs.declared.actions.Reply.TheVariants as reply
use Rattle.step_core.specs.declared.paths.Point.{Point}
use Rattle.step_core.specs.declared.paths.Point.TheVariants.{Said}
use Rattle.step_core.specs.Path.{point_told}
use Rattle.live_book.specs.Book.{BookState, bindings, act_answer, is_torn}
use Rattle.live_book.specs.declared.faults.BookFault.{BookFault}
use Rattle.live_book.specs.declared.faults.BookFault.TheVariants as book
use Rattle.live_book.specs.declared.deeds.Deed.TheVariants as deed
use Rattle.live_book.specs.declared.deeds.Logged.{Logged}
use Rattle.live_turns.specs.declared.desks.Refusal.{Refusal}
use Rattle.live_turns.specs.declared.desks.Refusal.TheVariants as refusal
use Rattle.live_book.specs.declared.faults.LiveFault.{LiveFault}
use Rattle.live_book.specs.declared.faults.LiveFault.TheVariants as fault
use Rattle.live_turns.specs.declared.standings.Turned.{Turned}
use Rattle.live_turns.specs.Points.{RestsAtPost}
use Rattle.live_turns.specs.Ways.{Holding, MayAnswer, Went, by}

-- the faults for which a desk does nothing
abbrev pub IsDeskFault : LiveFault → Type 0
IsDeskFault fault.RecordFull = Unit {0}
IsDeskFault fault.Torn = Unit {0}
IsDeskFault f = ⊥

-- and for which it tells no moment
abbrev pub IsTickFault : LiveFault → Type 0
IsTickFault fault.RecordFull = Unit {0}
IsTickFault fault.Torn = Unit {0}
IsTickFault fault.Backwards = Unit {0}
IsTickFault f = ⊥

-- why a desk with this book binds nothing: it gives up, or every monitor is bound
abbrev pub MayRefuse : BookState → Refusal → Type 0
MayRefuse b (refusal.Fault f) = IsDeskFault f
MayRefuse b (refusal.Cause c) = (c ≡ cause.NoMonitor) × (b.fats.limit ≤ length b.fats.monitors)

-- where a call came to that is refused for want of a monitor, every monitor of this book is bound
abbrev pub IsFullAt : BookState → Point → Type 0
IsFullAt b p = p ≡ Said (reply.Refused cause.NoMonitor) → b.fats.limit ≤ length b.fats.monitors

-- what a desk tells of what its book answered: what is no want of places is a torn pass
abbrev pub live_answer : Result Done BookFault → Result Done LiveFault
live_answer (Ok d) = Ok d
live_answer (Err book.RecordFull) = Err fault.RecordFull
live_answer (Err f) = Err fault.Torn

-- whether the pass of a thread, in a call that has parked or not, is torn from this book, with these deeds of its own
abbrev pub is_torn_from : BookState → ThreadId → Bool → List Logged → Bool
is_torn_from b t has_parked own = is_torn b t has_parked (nat_le b.places (length own))

-- what a parked thread did itself, by its answer
abbrev pub own_action : Answer → Action
own_action (answer.Reply r) = action.Collect
own_action answer.Quiet = action.Expire
own_action answer.Parked = action.Collect

-- it collected a reply, which is no refusal, or its wait expired, which had not expired before
abbrev pub IsAwake : Bool → Answer → Type 0
IsAwake expired (answer.Reply r) = MayAnswer action.Collect (answer.Reply r)
IsAwake expired answer.Quiet = expired ≡ false
IsAwake expired answer.Parked = ⊥

-- A fat action was made at the book, and noted as a deed of this thread's own; or nothing was done.
pub record IsActionNoted (t : ThreadId) (a : Action) (r : Result Done LiveFault) (b b' : BookState) (own own' : List Logged) : Type 0 where
  pub answer : r ≡ live_answer (act_answer b t a)
  pub noted : IfOk r (λ d. own' ≡ own ++ by t (deed.Acted a d.answer) ∷ [])
  pub told : IfOk r (λ d. (outcome_of b.fats t a).answer ≡ Ok d)
  pub bound : bindings b' ≡ bindings b
  pub none : OnErr r (own' ≡ own)
  pub fault : IfErr r IsDeskFault

-- An object that this thread holds so often got the next monitor, which was noted as a deed of its own; or nothing was
-- done.
pub record IsBindNoted (t : ThreadId) (o : ObjectId) (holds : ℕ) (r : Result Binding Refusal) (b b' : BookState) (own own' : List Logged) : Type 0 where
  pub receipt : IfOk r (λ x. x ≡ record { object = o; owner = t; holds = holds; monitor = length (bindings b) })
  pub noted : OnOk r (own' ≡ own ++ by t (deed.Bound o holds (length (bindings b))) ∷ [])
  pub bound : OnOk r (bindings b' ≡ bindings b ++ o ∷ [])
  pub same : OnErr r (bindings b' ≡ bindings b)
  pub none : OnErr r (own' ≡ own)
  pub fault : IfErr r (MayRefuse b)

-- what a turn tells of the action of its call
abbrev pub Tells : Result Done LiveFault → Result Turned LiveFault → Type 0
Tells (Ok d) (Ok t) = (t.point ≡ point_told d.answer) × (t.gate_taken ≡ false)
Tells (Ok d) (Err f) = ⊥
Tells (Err f) (Ok t) = ⊥
Tells (Err f) (Err g) = g ≡ f

-- A call that stands at this point acted at the desk, by a pass that has the gate; or nothing was done.
pub record IsAtDesk (s : Point) (r : Result Turned LiveFault) (b b' : BookState) (p q : Holding) : Type 0 where
  pub words : q.words ≡ p.words
  pub bound : bindings b' ≡ bindings b
  pub went : IfOk r (λ t. Went s t.point p q)
  pub rests : IfOk r (λ t. (t.gate_taken ≡ false) × RestsAtPost t.point)
  pub none : OnErr r (q.own ≡ p.own)
  pub fault : IfErr r IsDeskFault
