-- What the end of a service tells.
use Rattle.std.specs.Prelude.{◌≡◌, ℕ, List, map}
use Rattle.header_words.specs.Passes.{Opening}
use Rattle.step_core.specs.declared.places.Place.TheVariants.{Idle}
use Rattle.step_core.specs.declared.paths.Point.TheVariants.{At}
use Rattle.live_turns.specs.Numbers.{HasEach}
use Rattle.live_turns.specs.Ends.{Disagrees}
use Rattle.live_turns.specs.Ways.{Holding, PassState}
use Rattle.live_threads.specs.declared.ending.LiveClose.{LiveClose}
use Rattle.live_threads.specs.declared.ending.LiveClose.TheVariants.{WrongPass, Memory, Torn}

-- a pass in no call, as turns have it
abbrev pub at_rest : Holding → PassState
at_rest p = record { holding = p; point = At Idle }

-- the numbers of the passes
abbrev pub numbers_of : List Holding → List ℕ
numbers_of ps = map (λ (p : Holding). p.words.index) ps

-- want of memory and a torn pass are told of passes that are all there
abbrev pub TellsEnd : {L : Type 0} → ℕ → List Holding → LiveClose L → Type 0
TellsEnd count ps (WrongPass s p) = HasEach count (numbers_of ps) → ⊥
TellsEnd count ps (Memory s p) = HasEach count (numbers_of ps)
TellsEnd count ps Torn = HasEach count (numbers_of ps)

-- Torn is told where there is a record that replays, and is as long as the deeds of all passes together, but does not
-- have just each pass's own deeds
abbrev pub IsTornFrom : {L : Type 0} → Opening → ℕ → List Holding → LiveClose L → Type 0
IsTornFrom z limit ps (WrongPass s p) = Unit {0}
IsTornFrom z limit ps (Memory s p) = Unit {0}
IsTornFrom z limit ps Torn = Disagrees z limit (map at_rest ps)

-- the fault hands back this service and these passes
abbrev pub IsHandedBack : {L : Type 0} → Opening → List Holding → LiveClose L → Type 0
IsHandedBack z ps (WrongPass s p) = (s ≡ z) × (p.items ≡ ps)
IsHandedBack z ps (Memory s p) = (s ≡ z) × (p.items ≡ ps)
IsHandedBack z ps Torn = Unit {0}
