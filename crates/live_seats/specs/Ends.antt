-- What comes of a close.
use Rattle.std.specs.Prelude.{◌≡◌, ◌++◌, List, [], ◌∷◌, map, Option, Some, None}
use Rattle.lock_word.specs.declared.ThreadId.{ThreadId}
use Rattle.live_book.specs.Log.{thread_numbered}
use Rattle.live_turns.specs.Numbers.{HasEach}
use Rattle.live_turns.specs.Ends.{IsEnd, Disagrees, numbers_of}
use Rattle.live_turns.specs.Ways.{PassState}
use Rattle.live_seats.specs.Seats.{SeatState}
use Rattle.live_seats.specs.declared.ending.ServiceEnd.{ServiceEnd}
use Rattle.live_seats.specs.declared.ending.Closing.{Closing}
use Rattle.live_seats.specs.declared.ending.Closing.TheVariants.{Done, Others, WrongPass, Memory, Torn}

abbrev pub thread_of : PassState → ThreadId
thread_of p = thread_numbered p.holding.words.index

-- the passes of a seat: those that are left to it, more that came back to the service, and its own
abbrev pub all_passes : List PassState → List PassState → PassState → List PassState
all_passes rest more p = (rest ++ more) ++ p ∷ []

abbrev pub passes_with : List PassState → SeatState → List PassState
passes_with more s = all_passes s.rest more s.pass

-- The service was closed with all its passes, each once: words, record and counts are theirs, with their threads in the
-- same order.
pub record HasEnded (s : SeatState) (e : ServiceEnd) : Type 0 where
  pub more : List PassState
  pub each : HasEach s.opening.count (numbers_of (passes_with more s))
  pub end : IsEnd s.opening s.limit (passes_with more s) e.closed
  pub threads : e.threads.items ≡ map thread_of (passes_with more s)

-- a pass is torn: the passes are all there, and there is a record that replays, and is as long as the deeds of all of
-- them together, but does not have just each pass's own deeds
pub record IsTornSeat (s : SeatState) : Type 0 where
  pub more : List PassState
  pub each : HasEach s.opening.count (numbers_of (passes_with more s))
  pub disagrees : Disagrees s.opening s.limit (passes_with more s)

-- the seat afterwards: it has also these passes
abbrev pub with_more : List PassState → SeatState → SeatState
with_more more s = record { opening = s.opening; limit = s.limit; pass = s.pass; rest = s.rest ++ more }

-- the passes of the seat afterwards are not all of the service's, each once
abbrev pub HasFewer : SeatState → SeatState → Type 0
HasFewer s v =
    (more : List PassState) × (v ≡ with_more more s)
    × (HasEach s.opening.count (numbers_of (passes_with more s)) → ⊥)

-- What came of a close: the seat afterwards, if it is not gone, and the end of the service, if it was closed.
abbrev pub Closes : SeatState → Closing → Option SeatState → Option ServiceEnd → Type 0
Closes s Done None (Some e) = HasEnded s e
Closes s Done None None = ⊥
Closes s Done (Some v) e = ⊥
Closes s Others (Some v) None = v ≡ s
Closes s Others (Some v) (Some e) = ⊥
Closes s Others None e = ⊥
Closes s WrongPass (Some v) None = HasFewer s v
Closes s WrongPass (Some v) (Some e) = ⊥
Closes s WrongPass None e = ⊥
Closes s Memory (Some v) None = (more : List PassState) × (v ≡ with_more more s)
Closes s Memory (Some v) (Some e) = ⊥
Closes s Memory None e = ⊥
Closes s Torn None None = IsTornSeat s
Closes s Torn None (Some e) = ⊥
Closes s Torn (Some v) e = ⊥
