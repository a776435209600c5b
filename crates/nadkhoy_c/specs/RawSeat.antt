-- What a raw seat owns, and what an order does to it.
use Rattle.std.specs.Prelude.{◌≡◌, ℕ, [], Option, Some}
use base.Fml.{Fml}
use denote.Exit.{no}
use denote.Param.{param, arg}
use denote.RattleType.{RattleType}
use denote.RawPtr.{Ptr}
use mir.Syntax.{ty_struct, tnil}
use Rattle.std.specs.declared.alloc.Global.{Global}
use Rattle.std.specs.contracts.impls.GlobalAllocator.TheImpl.{ghosts}
use Rattle.std.specs.contracts.marker.Brand as Brand
use Rattle.std.specs.declared.sync.ledger.Ledger as Ledger
use Rattle.live_turns.specs.declared.desks.Crew as Crew
use Rattle.live_seats.specs.Kept.{kept}
use Rattle.live_seats.specs.Seats.{SeatState, SeatServes, SeatStarts}
use Rattle.live_seats.specs.contracts.seat.Seat as Seat
use Rattle.fast_path.specs.declared.calls.MonitorCall.{MonitorCall}
use Rattle.live_seats.specs.declared.orders.SeatOrder.{SeatOrder}
use Rattle.live_seats.specs.declared.orders.Started.{Started}
use Rattle.live_seats.specs.declared.orders.Told.{Told}
use Rattle.c_slots.specs.Maybe.{maybe_owns}

-- the numbers of the crew of a service: the name of its ledger, and what it was opened with
pub record Numbers : Type 0 where
  pub name : ℕ
  pub monitors : ℕ
  pub passes : ℕ
  pub places : ℕ

-- the marker type of a crew whose numbers are picked, as an argument of a call
abbrev pub marker : RattleType
marker = arg (ty_struct [] tnil) no Brand.the_row

abbrev pub ledger_of : Numbers → Ledger.Ghosts marker.Denot
ledger_of n = record { name = n.name; parts = n.passes }

abbrev pub crew_of : Numbers → Crew.Ghosts marker.Denot
crew_of n = record { monitors = n.monitors; passes = n.passes; places = n.places }

-- a seat of a crew with these numbers
abbrev pub seat_row : Numbers → RattleType
seat_row n = Seat.the_row (param 0 marker) (crew_of n) (ledger_of n)

abbrev pub seat_owns : Numbers → Global → Ptr → Option SeatState → Fml
seat_owns n a p x = maybe_owns (ghosts.dealloc_token a) (seat_row n) p (kept x)

-- a seat carried out this order
abbrev pub HasServed : Option SeatState → SeatOrder → Told → Option SeatState → Option SeatState → Type 0
HasServed s o x q u = (v : SeatState) × (s ≡ Some v) × SeatServes v o x q u

-- a seat started this call
abbrev pub HasStarted : Option SeatState → MonitorCall → Started → Option SeatState → Type 0
HasStarted s c x q = (v : SeatState) × (s ≡ Some v) × SeatStarts v c x q
