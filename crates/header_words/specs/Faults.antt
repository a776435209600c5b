-- What the faults of `close` tell.
use Rattle.std.specs.Prelude.{◌≡◌, ℕ, ◌<◌, List, length}
use Rattle.header_words.specs.declared.close.CloseFault.{CloseFault}
use Rattle.header_words.specs.declared.close.CloseFault.TheVariants.{WrongPass, Memory}
use Rattle.header_words.specs.Passes.{Opening, PassValue, HasAll, LacksOne}

-- a pass is missing exactly where the fault says so: want of memory is told of passes that are all there, and
-- where there is an object
abbrev pub TellsFault : {B : Type 0} → ℕ → List PassValue → CloseFault B → Type 0
TellsFault count ps (WrongPass h p) = LacksOne count ps
TellsFault count ps (Memory h p) = HasAll count ps × (0 < length h.lows)

-- the fault hands back these headers and passes
abbrev pub IsHandedBack : {B : Type 0} → Opening → List PassValue → CloseFault B → Type 0
IsHandedBack z ps (WrongPass h p) = (h ≡ z) × (p.items ≡ ps)
IsHandedBack z ps (Memory h p) = (h ≡ z) × (p.items ≡ ps)
