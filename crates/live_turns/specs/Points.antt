-- What one turn of a call came to, and what a pass knows between turns.
use Rattle.std.specs.Prelude.{◌≡◌, ◌<◌, ◌≤◌, ◌||◌, ◌+◌, Bool, true, false, nat_lt, length, Option, Some, None, Result, IfOk, IfErr, OnErr}
use Rattle.header_words.specs.Bindings.{HasPublish}
use Rattle.fat_monitor.specs.declared.actions.Reply.{Reply}
use Rattle.fat_monitor.specs.declared.actions.Reply.TheVariants as reply
use Rattle.fast_path.specs.declared.calls.MonitorCall.{MonitorCall}
use Rattle.fast_path.specs.declared.calls.InterruptCall.{InterruptCall}
use Rattle.fast_path.specs.declared.calls.InterruptCall.TheVariants as about
use Rattle.header_words.specs.Passes.{Opening, PassValue, depth_at}
use Rattle.step_core.specs.declared.places.Place.{Place}
use Rattle.step_core.specs.declared.places.Place.TheVariants.{Idle, InCall, Ending, AtPost}
use Rattle.step_core.specs.declared.places.Stage.{Stage}
use Rattle.step_core.specs.declared.places.Stage.TheVariants.{Begun, Taking, Storing, Binding, Acting, Won, Bound, Inflated, Direct}
use Rattle.step_core.specs.declared.paths.Point.{Point}
use Rattle.step_core.specs.declared.paths.Point.TheVariants.{At, Expired, Said}
use Rattle.live_turns.specs.declared.standings.Turned.{Turned}
use Rattle.live_turns.specs.declared.standings.Standing.{Standing}
use Rattle.live_turns.specs.declared.standings.Standing.TheVariants as standing
use Rattle.live_book.specs.declared.faults.LiveFault.{LiveFault}
use Rattle.live_book.specs.declared.faults.LiveFault.TheVariants as fault
use Rattle.live_turns.specs.Ways.{Holding, Went, Halted, Belongs, VisitsBook}

-- where a call stands that has no reply yet, for whoever drives it
abbrev pub waiting_at : Place → Standing
waiting_at (InCall s) = standing.Contended
waiting_at p = standing.Parked

abbrev pub standing_at : Bool → Point → Standing
standing_at gate_taken (Said r) = standing.Said r
standing_at true (At p) = standing.GateTaken
standing_at true Expired = standing.GateTaken
standing_at false (At p) = waiting_at p
standing_at false Expired = standing.Parked

abbrev pub standing_of : Turned → Standing
standing_of t = standing_at t.gate_taken t.point

-- what a pass that stands at this stage between turns knows
abbrev pub KnowsStage : Stage → Holding → Type 0
KnowsStage (Begun c contended) p = c.object.0 < length p.words.opening.lows
KnowsStage (Taking o contended) p = ⊥
KnowsStage (Storing c l) p = ⊥
KnowsStage (Binding c n) p =
    (c.object.0 < length p.words.opening.lows) × (depth_at p.words c.object.0 ≡ n + 1) × (n ≤ 255)
KnowsStage (Acting c m) p = HasPublish m c.object.0 p.words.seen
KnowsStage (Won o) p = (o.0 < length p.words.opening.lows) × (depth_at p.words o.0 ≡ 1)
KnowsStage (Bound c won m) p = ⊥
KnowsStage (Inflated c m) p = ⊥
KnowsStage (Direct c) p = Unit {0}

-- and at this point: no call rests at another
abbrev pub Knows : Point → Holding → Type 0
Knows (At Idle) p = Unit {0}
Knows (At (InCall s)) p = KnowsStage s p
Knows (At AtPost) p = Unit {0}
Knows (At (Ending n)) p = ⊥
Knows Expired p = Unit {0}
Knows (Said r) p = Unit {0}

-- a turn at the book ends with the reply, or parked
abbrev pub RestsAtPost : Point → Type 0
RestsAtPost (Said r) = Unit {0}
RestsAtPost (At Idle) = ⊥
RestsAtPost (At (InCall s)) = ⊥
RestsAtPost (At AtPost) = Unit {0}
RestsAtPost (At (Ending n)) = ⊥
RestsAtPost Expired = Unit {0}

-- where a pass rests after a turn: in no call once it has its reply
abbrev pub resting : Point → Point
resting (Said r) = At Idle
resting p = p

-- where a call stands after its start: it has its reply, or stands where its pass does
abbrev pub started : Option Reply → Point → Point
started (Some r) p = Said r
started None p = p

-- the pass of a call that has its reply is in no call, and that of another in the middle of it
abbrev pub RestsStarted : Option Reply → Point → Type 0
RestsStarted (Some r) p = p ≡ At Idle
RestsStarted None p = (s : Stage) × (p ≡ At (InCall s))

-- a call rests at this stage, and its next step is at the book
abbrev pub rests_at_book : Stage → Bool
rests_at_book (Begun c contended) = false
rests_at_book (Taking o contended) = false
rests_at_book (Storing c l) = false
rests_at_book (Binding c n) = true
rests_at_book (Acting c m) = true
rests_at_book (Won o) = true
rests_at_book (Bound c won m) = false
rests_at_book (Inflated c m) = false
rests_at_book (Direct c) = true

-- and at this point
abbrev pub is_at_book : Point → Bool
is_at_book (Said r) = false
is_at_book (At Idle) = false
is_at_book (At (InCall s)) = rests_at_book s
is_at_book (At AtPost) = true
is_at_book (At (Ending n)) = false
is_at_book Expired = true

-- A turn that begins at the book: either another pass had the gate, and the call still stands at the book, at which the
-- pass was not; or the pass was there once, and the call has its reply or has parked.
abbrev pub Visited : Bool → Point → PassValue → PassValue → Type 0
Visited true s p q = (is_at_book s ≡ true) × VisitsBook 0 p q
Visited false s p q = RestsAtPost s × VisitsBook 1 p q

-- a call is refused at the book alone
abbrev pub RefusesThere : Reply → PassValue → PassValue → Type 0
RefusesThere (reply.Refused x) p q = VisitsBook 1 p q
RefusesThere r p q = Unit {0}

-- A turn that begins with a load: a call that stands in the middle has met another thread, by an event on the word; one
-- that has parked, or is refused, was at the book once.
abbrev pub Loaded : Bool → Point → PassValue → PassValue → Type 0
Loaded true s p q = (is_at_book s ≡ true) × VisitsBook 0 p q
Loaded false (Said r) p q = RefusesThere r p q
Loaded false (At (InCall s)) p q = (length p.mine < length q.mine) × VisitsBook 0 p q
Loaded false (At Idle) p q = ⊥
Loaded false (At AtPost) p q = VisitsBook 1 p q
Loaded false (At (Ending n)) p q = ⊥
Loaded false Expired p q = VisitsBook 1 p q

-- what a pass did in a turn from this stage: no call rests at another
abbrev pub TurnedStage : Stage → Bool → Point → PassValue → PassValue → Type 0
TurnedStage (Begun c contended) gate_taken s p q = Loaded gate_taken s p q
TurnedStage (Taking o contended) gate_taken s p q = ⊥
TurnedStage (Storing c l) gate_taken s p q = ⊥
TurnedStage (Binding c n) gate_taken s p q = Visited gate_taken s p q
TurnedStage (Acting c m) gate_taken s p q = Visited gate_taken s p q
TurnedStage (Won o) gate_taken s p q = Visited gate_taken s p q
TurnedStage (Bound c won m) gate_taken s p q = ⊥
TurnedStage (Inflated c m) gate_taken s p q = ⊥
TurnedStage (Direct c) gate_taken s p q = Visited gate_taken s p q

-- and from this point: nothing, where it is in no call
abbrev pub TurnedFrom : Point → Bool → Point → PassValue → PassValue → Type 0
TurnedFrom (Said r) gate_taken s p q = q ≡ p
TurnedFrom (At Idle) gate_taken s p q = q ≡ p
TurnedFrom (At (InCall s)) gate_taken t p q = TurnedStage s gate_taken t p q
TurnedFrom (At AtPost) gate_taken s p q = Visited gate_taken s p q
TurnedFrom (At (Ending n)) gate_taken s p q = ⊥
TurnedFrom Expired gate_taken s p q = Visited gate_taken s p q

-- A turn of a call that stands at this point, by a pass that belongs to this opening and has not the gate afterwards: the
-- call went to the point that the turn tells, or was given up; what the pass knows there, and how often it was at the book.
pub record IsTurnFrom (z : Opening) (s : Point) (r : Result Turned LiveFault) (p q : Holding) : Type 0 where
  pub belongs : Belongs z false q
  pub went : IfOk r (λ t. Went s t.point p q)
  pub knows : IfOk r (λ t. Knows t.point q)
  pub halted : IfErr r (λ f. Halted f s p q)
  pub did : IfOk r (λ t. TurnedFrom s t.gate_taken t.point p.words q.words)
  pub looked : OnErr r (VisitsBook 1 p.words q.words)

-- a call on an object was given up: there is no such object, and nothing was done; or as the point of the path says
abbrev pub GivenUpOn : Opening → MonitorCall → LiveFault → Holding → Holding → Type 0
GivenUpOn z c fault.NoObject p q = (length z.lows ≤ c.object.0) × (q ≡ p)
GivenUpOn z c f p q = (c.object.0 < length z.lows) × Halted f (At (InCall (Begun c false))) p q

-- the call names a thread that is none of so many
abbrev pub names_stranger : Opening → InterruptCall → Bool
names_stranger z (about.Interrupt u) = nat_lt u.0 1 || nat_lt z.count u.0
names_stranger z about.Interrupted = false
names_stranger z (about.IsInterrupted u) = nat_lt u.0 1 || nat_lt z.count u.0

-- a call about interrupts was given up: there is no such thread, and nothing was done; or as the point of the path says
abbrev pub GivenUpAbout : Opening → InterruptCall → LiveFault → Holding → Holding → Type 0
GivenUpAbout z c fault.NoThread p q = (names_stranger z c ≡ true) × (q ≡ p)
GivenUpAbout z c f p q = (names_stranger z c ≡ false) × Halted f (At (InCall (Direct c))) p q
