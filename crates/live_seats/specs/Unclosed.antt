-- What there is of a service that was not closed.
use Rattle.std.specs.Prelude.{◌≡◌, ℕ, ◌++◌, List, All, Option, Some, None, false}
use Rattle.header_words.specs.Passes.{Opening}
use Rattle.live_turns.specs.Numbers.{HasEach}
use Rattle.live_turns.specs.Ends.{Disagrees, numbers_of}
use Rattle.live_turns.specs.Ways.{PassState, Belongs}
use Rattle.live_seats.specs.Seats.{SeatState}
use Rattle.live_seats.specs.Ends.{all_passes, Closes, IsTornSeat}
use Rattle.live_seats.specs.Kept.{kept}
use Rattle.live_seats.specs.declared.seat.Seat.{Seat}
use Rattle.live_seats.specs.declared.ending.ServiceEnd.{ServiceEnd}
use Rattle.live_seats.specs.declared.ending.Closing.{Closing}
use Rattle.live_seats.specs.declared.ending.Closing.TheVariants as closing
use Rattle.live_seats.specs.declared.unclosed.Refused.{Refused}
use Rattle.live_seats.specs.declared.unclosed.Refused.TheVariants as refused
use Rattle.live_seats.specs.declared.unclosed.Waits.{Waits}
use Rattle.live_seats.specs.declared.unclosed.Waits.TheVariants as waits
use Rattle.live_seats.specs.declared.unclosed.Unclosed.{Unclosed}
use Rattle.live_seats.specs.declared.unclosed.Unclosed.TheVariants as unclosed

-- what is told of passes that came back
abbrev pub IsToldOf : Closing → ℕ → List PassState → Type 0
IsToldOf closing.Done count ps = ⊥
IsToldOf closing.Others count ps = ⊥
IsToldOf closing.WrongPass count ps = HasEach count (numbers_of ps) → ⊥
IsToldOf closing.Memory count ps = HasEach count (numbers_of ps)
IsToldOf closing.Torn count ps = ⊥

-- the house comes back with the passes, or one of them is torn
abbrev pub IsRefused : {L : Type 0} → Opening → ℕ → List PassState → Refused L → Type 0
IsRefused z limit ps (refused.Back h x t) = (h ≡ z) × (x.items ≡ ps) × IsToldOf t z.count ps
IsRefused z limit ps refused.Torn = HasEach z.count (numbers_of ps) × Disagrees z limit ps

-- what is told of a member that has more passes now
abbrev pub StaysAs : Closing → ℕ → PassState → List PassState → List PassState → Type 0
StaysAs closing.Done count p rest r = ⊥
StaysAs closing.Others count p rest r = r ≡ rest
StaysAs closing.WrongPass count p rest r =
    (more : List PassState) × (r ≡ rest ++ more) × (HasEach count (numbers_of (all_passes rest more p)) → ⊥)
StaysAs closing.Memory count p rest r = (more : List PassState) × (r ≡ rest ++ more)
StaysAs closing.Torn count p rest r = ⊥

-- the passes are here, with those that came back, or one of them is torn
abbrev pub Stays : {L : Type 0} → Opening → ℕ → PassState → List PassState → Waits L → Type 0
Stays z limit p rest (waits.Here q r t) =
    (q ≡ p) × StaysAs t z.count p rest r.items × All (λ (x : PassState). Belongs z false x.holding) r.items
Stays z limit p rest waits.Torn =
    (more : List PassState) × HasEach z.count (numbers_of (all_passes rest more p))
    × Disagrees z limit (all_passes rest more p)

-- what is behind the share stays, if the passes do
abbrev pub IsThere : {L X : Type 0} → X → Waits L → X → Type 0
IsThere x (waits.Here q r t) y = y ≡ x
IsThere x waits.Torn y = Unit {0}

-- the member is here, or one of its passes is torn
abbrev pub IsUnclosed : {L : Type 0} → SeatState → Unclosed L → Type 0
IsUnclosed s (unclosed.Here m t) = Closes s t (Some m) None
IsUnclosed s unclosed.Torn = IsTornSeat s

-- what came of a close of a seat, of which this is kept
abbrev pub ClosesKept : {L : Type 0} → Option SeatState → Closing → Option (Seat L) → Option ServiceEnd → Type 0
ClosesKept s t x e = (v : SeatState) × (s ≡ Some v) × ((q : Option SeatState) × (x ≡ kept q) × Closes v t q e)
