-- What a seat has, and what an order does to it.
use Rattle.std.specs.Prelude.{◌≡◌, ◌≢◌, ◌<◌, ℕ, length, ◌++◌, List, [], ◌∷◌, map, Bool, true, false, Option, Some, None}
use Rattle.header_words.specs.Passes.{Opening, new_passes}
use Rattle.step_core.specs.declared.places.Place.TheVariants.{Idle, InCall}
use Rattle.step_core.specs.declared.places.Stage.TheVariants.{Begun, Direct}
use Rattle.step_core.specs.declared.paths.Point.{Point}
use Rattle.step_core.specs.declared.paths.Point.TheVariants.{At}
use Rattle.live_turns.specs.Asked.{IsTickFault}
use Rattle.live_book.specs.Log.{thread_numbered}
use Rattle.live_turns.specs.Points.{resting, standing_of, names_stranger, GivenUpOn, GivenUpAbout}
use Rattle.live_turns.specs.Ways.{PassState, Went, Halted, AddsNoEvent, ticked_by, new_state}
use Rattle.fast_path.specs.declared.calls.MonitorCall.{MonitorCall}
use Rattle.live_turns.specs.declared.standings.Standing.TheVariants as standing
use Rattle.live_turns.specs.declared.standings.Turned.{Turned}
use Rattle.live_book.specs.declared.faults.LiveFault.{LiveFault}
use Rattle.live_seats.specs.declared.opening.Draft.{Draft}
use Rattle.live_seats.specs.declared.orders.SeatOrder.{SeatOrder}
use Rattle.live_seats.specs.declared.orders.SeatOrder.TheVariants.{BeginOn, BeginAbout, Turn, Tick, Thread, Share, Leave}
use Rattle.live_seats.specs.declared.orders.Started.{Started}
use Rattle.live_seats.specs.declared.orders.Started.TheVariants as started
use Rattle.live_seats.specs.declared.orders.Told.{Told}
use Rattle.live_seats.specs.declared.orders.Told.TheVariants as told

-- the opening of its service, how many fat monitors that may have, its pass, and the passes of those who have no seat
pub record SeatState : Type 0 where
  pub opening : Opening
  pub limit : ℕ
  pub pass : PassState
  pub rest : List PassState

-- the pass is in no call
abbrev pub IsIdle : PassState → Type 0
IsIdle p = p.point ≡ At Idle

-- the point that the turn of this order begins at
abbrev pub begun_at : SeatOrder → Point → Point
begun_at (BeginOn c) p = At (InCall (Begun c false))
begun_at (BeginAbout c) p = At (InCall (Direct c))
begun_at Turn p = p
begun_at (Tick now) p = p
begun_at Thread p = p
begun_at Share p = p
begun_at Leave p = p

-- an order that is taken where the pass is in no call, and one that is taken where it is in one
abbrev pub IsTaken : SeatOrder → PassState → Type 0
IsTaken (BeginOn c) p = IsIdle p
IsTaken (BeginAbout c) p = IsIdle p
IsTaken Turn p = p.point ≢ At Idle
IsTaken (Tick now) p = IsIdle p
IsTaken Thread p = ⊥
IsTaken Share p = ⊥
IsTaken Leave p = ⊥

-- the service has the object, or the thread, that the order names, if it names one
abbrev pub HasNamed : Opening → SeatOrder → Type 0
HasNamed z (BeginOn c) = c.object.0 < length z.lows
HasNamed z (BeginAbout c) = names_stranger z c ≡ false
HasNamed z Turn = Unit {0}
HasNamed z (Tick now) = Unit {0}
HasNamed z Thread = Unit {0}
HasNamed z Share = Unit {0}
HasNamed z Leave = Unit {0}

-- what a fault leaves of the order
abbrev pub GaveUp : Opening → SeatOrder → LiveFault → PassState → PassState → Type 0
GaveUp z (BeginOn c) f p q = IsIdle q × GivenUpOn z c f p.holding q.holding
GaveUp z (BeginAbout c) f p q = IsIdle q × GivenUpAbout z c f p.holding q.holding
GaveUp z Turn f p q = IsIdle q × Halted f p.point p.holding q.holding
GaveUp z (Tick now) f p q =
    IsIdle q × IsTickFault f × AddsNoEvent p.holding.words q.holding.words × (q.holding.own ≡ p.holding.own)
GaveUp z Thread f p q = ⊥
GaveUp z Share f p q = ⊥
GaveUp z Leave f p q = ⊥

-- the order was a turn of a call
abbrev pub IsTurn : SeatOrder → Type 0
IsTurn (BeginOn c) = Unit {0}
IsTurn (BeginAbout c) = Unit {0}
IsTurn Turn = Unit {0}
IsTurn (Tick now) = ⊥
IsTurn Thread = ⊥
IsTurn Share = ⊥
IsTurn Leave = ⊥

-- the moment was told, or not
abbrev pub Ticks : SeatOrder → Bool → PassState → PassState → Type 0
Ticks (BeginOn c) b p q = ⊥
Ticks (BeginAbout c) b p q = ⊥
Ticks Turn b p q = ⊥
Ticks (Tick now) b p q =
    IsIdle q × AddsNoEvent p.holding.words q.holding.words
    × (q.holding.own ≡ p.holding.own ++ ticked_by b p.holding.words.index now)
Ticks Thread b p q = ⊥
Ticks Share b p q = ⊥
Ticks Leave b p q = ⊥

-- the order begins something
abbrev pub IsBegin : SeatOrder → Type 0
IsBegin (BeginOn c) = Unit {0}
IsBegin (BeginAbout c) = Unit {0}
IsBegin Turn = ⊥
IsBegin (Tick now) = Unit {0}
IsBegin Thread = ⊥
IsBegin Share = ⊥
IsBegin Leave = ⊥

-- What came of an order of a pass: it was none for a pass that stands so; it took a turn of the call, by steps of its
-- path, on what the service has; it told the moment; or it gave up.
abbrev pub Serves : Opening → SeatOrder → Told → PassState → PassState → Type 0
Serves z o told.InCall p q = IsBegin o × (p.point ≢ At Idle) × (q ≡ p)
Serves z o told.NotCalling p q = (o ≡ Turn) × IsIdle p × (q ≡ p)
Serves z o (told.Turned s g) p q =
    IsTurn o × IsTaken o p × HasNamed z o × ((t : Turned) × (s ≡ standing_of t) × (g ≡ t.granted)
    × Went (begun_at o p.point) t.point p.holding q.holding × (q.point ≡ resting t.point))
Serves z o (told.Ticked b) p q = IsIdle p × Ticks o b p q
Serves z o (told.Fault f) p q = IsTaken o p × GaveUp z o f p q
Serves z o (told.Thread t) p q =
    (o ≡ Thread) × (t ≡ thread_numbered p.holding.words.index) × (q ≡ p)
Serves z o told.Shared p q = ⊥
Serves z o told.NoPass p q = ⊥
Serves z o told.Memory p q = ⊥
Serves z o told.Left p q = ⊥

-- What is told of a call whose start was all that was done of it; one that goes on has nothing told yet.
abbrev pub told_of : Started → Told
told_of (started.Said r) = told.Turned (standing.Said r) None
told_of started.GoesOn = told.NotCalling
told_of started.InCall = told.InCall
told_of (started.Fault f) = told.Fault f

-- the pass is in the middle of the call: what a turn of it comes to, the call comes to
abbrev pub LeadsOn : Opening → MonitorCall → PassState → PassState → Type 0
LeadsOn z c p m =
    (m.point ≢ At Idle) × ((x : Told) → (q : PassState) → Serves z Turn x m q → Serves z (BeginOn c) x p q)

-- What came of the start of a call: what serves the call as a whole, or the pass goes on with it, on an object that the
-- service has.
abbrev pub Starts : Opening → MonitorCall → Started → PassState → PassState → Type 0
Starts z c (started.Said r) p q = Serves z (BeginOn c) (told_of (started.Said r)) p q
Starts z c started.GoesOn p q = HasNamed z (BeginOn c) × LeadsOn z c p q
Starts z c started.InCall p q = Serves z (BeginOn c) (told_of started.InCall) p q
Starts z c (started.Fault f) p q = Serves z (BeginOn c) (told_of (started.Fault f)) p q

-- the start of a call leaves the seat with all else that it has
abbrev pub SeatStarts : SeatState → MonitorCall → Started → Option SeatState → Type 0
SeatStarts s c x None = ⊥
SeatStarts s c x (Some q) =
    (q.opening ≡ s.opening) × (q.limit ≡ s.limit) × (q.rest ≡ s.rest) × Starts s.opening c x s.pass q.pass

-- An order that a pass carries out leaves the seat with all else that it has.
abbrev pub PassServes : SeatState → SeatOrder → Told → Option SeatState → Option SeatState → Type 0
PassServes s o x None u = ⊥
PassServes s o x (Some q) (Some u) = ⊥
PassServes s o x (Some q) None =
    (q.opening ≡ s.opening) × (q.limit ≡ s.limit) × (q.rest ≡ s.rest) × Serves s.opening o x s.pass q.pass

-- the new seat has the last of the passes that were left
abbrev pub HasShared : SeatState → Option SeatState → Option SeatState → Type 0
HasShared s None u = ⊥
HasShared s (Some q) None = ⊥
HasShared s (Some q) (Some u) =
    (q.opening ≡ s.opening) × (q.limit ≡ s.limit) × (q.pass ≡ s.pass) × (s.rest ≡ q.rest ++ u.pass ∷ [])
    × (u.opening ≡ s.opening) × (u.limit ≡ s.limit) × (u.rest ≡ [])

-- A new seat was made, or none: where no pass is left, or the system has no memory for it.
abbrev pub Shares : SeatState → Told → Option SeatState → Option SeatState → Type 0
Shares s told.InCall q u = ⊥
Shares s told.NotCalling q u = ⊥
Shares s (told.Turned t g) q u = ⊥
Shares s (told.Ticked b) q u = ⊥
Shares s (told.Fault f) q u = ⊥
Shares s (told.Thread t) q u = ⊥
Shares s told.Shared q u = HasShared s q u
Shares s told.NoPass q u = (s.rest ≡ []) × (q ≡ Some s) × (u ≡ None)
Shares s told.Memory q u = (s.rest ≢ []) × (q ≡ Some s) × (u ≡ None)
Shares s told.Left q u = ⊥

-- What came of an order: the seat afterwards, if it is not gone, and a new one, if there is one.
abbrev pub SeatServes : SeatState → SeatOrder → Told → Option SeatState → Option SeatState → Type 0
SeatServes s (BeginOn c) x q u = PassServes s (BeginOn c) x q u
SeatServes s (BeginAbout c) x q u = PassServes s (BeginAbout c) x q u
SeatServes s Turn x q u = PassServes s Turn x q u
SeatServes s (Tick now) x q u = PassServes s (Tick now) x q u
SeatServes s Thread x q u = PassServes s Thread x q u
SeatServes s Share x q u = Shares s x q u
SeatServes s Leave x q u = (x ≡ told.Left) × (q ≡ None) × (u ≡ None)

-- a pass carries the order out by itself
abbrev pub IsOfPass : SeatOrder → Type 0
IsOfPass (BeginOn c) = Unit {0}
IsOfPass (BeginAbout c) = Unit {0}
IsOfPass Turn = Unit {0}
IsOfPass (Tick now) = Unit {0}
IsOfPass Thread = Unit {0}
IsOfPass Share = ⊥
IsOfPass Leave = ⊥

-- a seat of a service that was just opened: its passes are all there, and have done nothing
abbrev pub IsOpenedWith : List ℕ → ℕ → ℕ → SeatState → Type 0
IsOpenedWith lows monitors passes s =
    (s.opening.lows ≡ lows) × (s.limit ≡ monitors) × (s.opening.count ≡ passes)
    × (s.rest ++ s.pass ∷ [] ≡ map new_state (new_passes s.opening 1 passes))

abbrev pub IsOpened : Draft → SeatState → Type 0
IsOpened d s = IsOpenedWith d.lows.items d.monitors d.passes s

-- whether a service was opened, and its seat
abbrev pub HasOpened : Draft → Bool → Option SeatState → Type 0
HasOpened d true None = ⊥
HasOpened d true (Some v) = IsOpened d v
HasOpened d false None = Unit {0}
HasOpened d false (Some v) = ⊥
