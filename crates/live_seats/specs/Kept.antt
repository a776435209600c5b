-- How a seat is kept.
use Rattle.std.specs.Prelude.{◌≡◌, Bool, Option, Some, None}
use Rattle.fast_path.specs.declared.calls.MonitorCall.{MonitorCall}
use Rattle.live_seats.specs.Seats.{SeatState, SeatServes, SeatStarts, HasOpened}
use Rattle.live_seats.specs.declared.opening.Draft.{Draft}
use Rattle.live_seats.specs.declared.orders.SeatOrder.{SeatOrder}
use Rattle.live_seats.specs.declared.orders.Started.{Started}
use Rattle.live_seats.specs.declared.orders.Told.{Told}
use Rattle.live_seats.specs.declared.seat.Seat.{Seat}

-- a seat whose member is there, or no seat
abbrev pub kept : {L : Type 0} → Option SeatState → Option (Seat L)
kept None = None
kept (Some s) = Some (record { member = Some s })

-- an opening of which this is kept
abbrev pub HasOpenedKept : {L : Type 0} → Draft → Bool → Option (Seat L) → Type 0
HasOpenedKept d b x = (q : Option SeatState) × (x ≡ kept q) × HasOpened d b q

-- an order of a seat, of which these two are kept
abbrev pub ServesKept : {L : Type 0} → Option SeatState → SeatOrder → Told → Option (Seat L) → Option (Seat L) → Type 0
ServesKept s o t x y =
    (v : SeatState) × (s ≡ Some v) × ((q : Option SeatState) × (x ≡ kept q)
    × ((u : Option SeatState) × (y ≡ kept u) × SeatServes v o t q u))

-- the start of a call, of which this is kept
abbrev pub StartsKept : {L : Type 0} → Option SeatState → MonitorCall → Started → Option (Seat L) → Type 0
StartsKept s c t x =
    (v : SeatState) × (s ≡ Some v) × ((q : Option SeatState) × (x ≡ kept q) × SeatStarts v c t q)
