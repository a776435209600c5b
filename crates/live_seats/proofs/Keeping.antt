-- A seat whose member is there is kept.
use Rattle.std.proofs.Common.{◌≡◌, Option, Some, ap}
use Rattle.live_seats.specs.Seats.{SeatState}
use Rattle.live_seats.specs.Kept.{kept}
use Rattle.live_seats.specs.declared.seat.Seat.{Seat}

abbrev with_member : {L : Type 0} → Option SeatState → Seat L
with_member m = record { member = m }

pub kept_is : {L : Type 0} (s : Seat L) (x : SeatState) → s.member ≡ Some x → Some s ≡ kept (Some x)
kept_is {L} s x e = ap (λ (m : Option SeatState). Some (with_member {L = L} m)) e
