-- What a call adds to the events and to the deeds of its pass.
use Rattle.std.specs.Prelude.{◌≡◌, ℕ, ◌+◌, ◌*◌, Bool, true, false, if◌then◌else◌, ◌==◌, List, [], ◌∷◌, ◌++◌, length}
use Rattle.lock_word.specs.declared.ThreadId.{ThreadId}
use Rattle.lock_word.specs.declared.Lock.{Lock}
use Rattle.lock_word.specs.declared.Lock.TheVariants.{Free, Thin, Fat}
use Rattle.lock_word.specs.declared.Split.TheVariants.{Wide}
use Rattle.lock_word.specs.Layout.{count_of}
use Rattle.fat_monitor.specs.declared.actions.Action.{Action}
use Rattle.fat_monitor.specs.declared.actions.Action.TheVariants as action
use Rattle.fat_monitor.specs.declared.actions.Answer.{Answer}
use Rattle.fat_monitor.specs.declared.actions.Answer.TheVariants as answer
use Rattle.fat_monitor.specs.declared.actions.Cause.{Cause}
use Rattle.fat_monitor.specs.declared.actions.Cause.TheVariants as cause
use Rattle.fat_monitor.specs.declared.actions.Reply.TheVariants as reply
use Rattle.header_words.specs.WideWords.{lock_of}
use Rattle.header_words.specs.declared.event.Event.{Event}
use Rattle.header_words.specs.declared.event.EventKind.{EventKind}
use Rattle.header_words.specs.declared.event.EventKind.TheVariants as word
use Rattle.header_words.specs.Events.{event}
use Rattle.header_words.specs.Passes.{Opening, PassValue, HasTaken, has_given}
use Rattle.step_core.specs.declared.places.Place.{Place}
use Rattle.step_core.specs.declared.places.Place.TheVariants.{Idle, InCall, AtPost}
use Rattle.step_core.specs.declared.places.Stage.{Stage}
use Rattle.step_core.specs.declared.places.Stage.TheVariants.{Begun, Taking, Storing, Binding, Acting, Won, Bound, Inflated, Direct}
use Rattle.step_core.specs.declared.paths.Point.{Point}
use Rattle.step_core.specs.declared.paths.Point.TheVariants.{At, Expired}
use Rattle.step_core.specs.declared.steps.Atomic.{Atomic}
use Rattle.step_core.specs.declared.steps.Atomic.TheVariants as atomic
use Rattle.step_core.specs.Path.{Leads, point_after}
use Rattle.live_book.specs.declared.deeds.Deed.{Deed}
use Rattle.live_book.specs.declared.deeds.Deed.TheVariants as deed
use Rattle.live_book.specs.declared.deeds.Logged.{Logged}
use Rattle.live_book.specs.declared.faults.LiveFault.{LiveFault}
use Rattle.live_book.specs.declared.faults.LiveFault.TheVariants as fault
use Rattle.live_book.specs.Log.{thread_numbered}

-- a deed and who did it
abbrev pub by : ThreadId → Deed → Logged
by t d = record { thread = t; deed = d }

-- what a pass has: what it knows of the words, and its own deeds
pub record Holding : Type 0 where
  pub words : PassValue
  pub own : List Logged

-- a pass to the turns of calls: what it has, and where its call stands
pub record PassState : Type 0 where
  pub holding : Holding
  pub point : Point

-- a pass that has done nothing at the book
abbrev pub new_holding : PassValue → Holding
new_holding p = record { words = p; own = [] }

-- and in no call
abbrev pub new_state : PassValue → PassState
new_state p = record { holding = new_holding p; point = At Idle }

-- which store turns the one lock into the other
abbrev pub stored_kind : Lock → Lock → EventKind
stored_kind old Free = word.Release
stored_kind old (Fat m) = word.Publish m
stored_kind old (Thin i c) = if count_of old + 1 == c then word.Nest else word.Unnest

-- the events on the words of an atomic step by the pass with the index me
abbrev pub event_of : ℕ → Atomic → List Event
event_of me (atomic.Load o x) = event me o.0 (word.Load x.0) ∷ []
event_of me (atomic.Won o x y) = event me o.0 word.Win ∷ []
event_of me (atomic.Lost o x) = event me o.0 word.Lose ∷ []
event_of me (atomic.Stored o x y) = event me o.0 (stored_kind (lock_of x.0) (lock_of y.0)) ∷ []
event_of me atomic.Label = []
event_of me (atomic.Bound o m) = []
event_of me (atomic.NotBound o c) = []
event_of me (atomic.Acted a x) = []

abbrev pub events_of : ℕ → List Atomic → List Event
events_of me [] = []
events_of me (a ∷ es) = event_of me a ++ events_of me es

-- with how many holds the bind at this point is
abbrev pub holds_in : Stage → ℕ
holds_in (Begun c contended) = 0
holds_in (Taking o contended) = 0
holds_in (Storing c l) = 0
holds_in (Binding c n) = n + 1
holds_in (Acting c m) = 0
holds_in (Won o) = 1
holds_in (Bound c won m) = 0
holds_in (Inflated c m) = 0
holds_in (Direct c) = 0

abbrev pub holds_at : Place → ℕ
holds_at (InCall s) = holds_in s
holds_at p = 0

abbrev pub bound_holds : Point → ℕ
bound_holds (At p) = holds_at p
bound_holds p = 0

-- the deeds at the book of an atomic step at this point
abbrev pub deed_of : ℕ → Point → Atomic → List Logged
deed_of me p (atomic.Bound o m) = by (thread_numbered me) (deed.Bound o (bound_holds p) m) ∷ []
deed_of me p (atomic.Acted a x) = by (thread_numbered me) (deed.Acted a x) ∷ []
deed_of me p atomic.Label = []
deed_of me p (atomic.Load o x) = []
deed_of me p (atomic.Won o x y) = []
deed_of me p (atomic.Lost o x) = []
deed_of me p (atomic.Stored o x y) = []
deed_of me p (atomic.NotBound o c) = []

abbrev pub deeds_of : ℕ → Point → List Atomic → List Logged
deeds_of me p [] = []
deeds_of me p (a ∷ es) = deed_of me p a ++ deeds_of me (point_after Wide me p a) es

-- why a fat action of a live call is refused: an enter that is too deep, and an action on a thread that there is not
abbrev pub MayRefuseAct : Action → Cause → Type 0
MayRefuseAct (action.Enter m) c = c ≡ cause.TooDeep
MayRefuseAct (action.Interrupt u) c = c ≡ cause.NoThread
MayRefuseAct (action.IsInterrupted u) c = c ≡ cause.NoThread
MayRefuseAct a c = ⊥

abbrev pub MayAnswer : Action → Answer → Type 0
MayAnswer a (answer.Reply (reply.Refused c)) = MayRefuseAct a c
MayAnswer a x = Unit {0}

-- An atomic step that a live call makes. A bind that is not made never says that there is no memory, since a live service
-- asks for all of it when it is opened; and a fat action is refused for what its table says.
abbrev pub IsLiveStep : Atomic → Type 0
IsLiveStep (atomic.NotBound o c) = c ≡ cause.NoMonitor
IsLiveStep (atomic.Acted a x) = MayAnswer a x
IsLiveStep a = Unit {0}

abbrev pub AreLiveSteps : List Atomic → Type 0
AreLiveSteps [] = Unit {0}
AreLiveSteps (a ∷ es) = IsLiveStep a × AreLiveSteps es

-- A call went from one point to another: what its pass added are the events and the deeds of atomic steps that lead
-- there, each of which a live call makes.
pub record Went (s s' : Point) (p q : Holding) : Type 0 where
  pub opening : q.words.opening ≡ p.words.opening
  pub index : q.words.index ≡ p.words.index
  pub has_gate : q.words.has_gate ≡ p.words.has_gate
  pub steps : List Atomic
  pub leads : Leads Wide p.words.index s steps s'
  pub live : AreLiveSteps steps
  pub mine : q.words.mine ≡ p.words.mine ++ events_of p.words.index steps
  pub own : q.own ≡ p.own ++ deeds_of p.words.index s steps

-- the stages whose next step needs the book
abbrev pub NeedsBook : Stage → Type 0
NeedsBook (Begun c contended) = ⊥
NeedsBook (Taking o contended) = ⊥
NeedsBook (Storing c l) = ⊥
NeedsBook (Binding c n) = Unit {0}
NeedsBook (Acting c m) = Unit {0}
NeedsBook (Won o) = ⊥
NeedsBook (Bound c won m) = ⊥
NeedsBook (Inflated c m) = Unit {0}
NeedsBook (Direct c) = Unit {0}

-- A call may be given up before its bind and before its fat action; where the pass is torn from the book, also once it
-- has parked.
abbrev pub MayHalt : LiveFault → Point → Type 0
MayHalt fault.RecordFull (At (InCall s)) = NeedsBook s
MayHalt fault.Torn (At (InCall s)) = NeedsBook s
MayHalt fault.Torn (At AtPost) = Unit {0}
MayHalt fault.Torn Expired = Unit {0}
MayHalt f p = ⊥

-- a call was given up, and what it had done until then
pub record Halted (f : LiveFault) (s : Point) (p q : Holding) : Type 0 where
  pub point : Point
  pub last : MayHalt f point
  pub went : Went s point p q

-- the pass belongs to this opening, and has the gate or not
abbrev pub Belongs : Opening → Bool → Holding → Type 0
Belongs z gate p = (p.words.opening ≡ z) × (p.words.has_gate ≡ gate)

-- the pass takes the gate, and gives it back
abbrev pub TakesGate : Holding → Holding → Type 0
TakesGate p q = HasTaken p.words q.words × (q.own ≡ p.own)

abbrev pub GivesGate : Holding → Holding → Type 0
GivesGate p q = (q.words ≡ has_given p.words) × (q.own ≡ p.own)

-- the pass made no event on the words
abbrev pub AddsNoEvent : PassValue → PassValue → Type 0
AddsNoEvent p q = (q.opening ≡ p.opening) × (q.index ≡ p.index) × (q.mine ≡ p.mine) × (q.has_gate ≡ p.has_gate)

-- The pass was at the book so often: it took the gate, and gave it back. Each other step of its own is an event.
abbrev pub VisitsBook : ℕ → PassValue → PassValue → Type 0
VisitsBook n p q = q.steps + length p.mine ≡ p.steps + length q.mine + 2 * n

-- the deed of a pass that told the moment, if it did
abbrev pub ticked_by : Bool → ℕ → ℕ → List Logged
ticked_by true me now = by (thread_numbered me) (deed.Ticked now) ∷ []
ticked_by false me now = []

-- where a call stands that has parked, before or after an expire of its own
abbrev pub parked : Bool → Point
parked false = At AtPost
parked true = Expired
