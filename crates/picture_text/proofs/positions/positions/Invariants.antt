use Rattle.std.proofs.Common.{◌≡◌, ℕ}
use Rattle.std.specs.Prelude.{nat_eq}
use Rattle.std.specs.HashMap.{get as map_get}
use Rattle.picture_text.specs.Positions.{position_in}
use Rattle.picture_text.proofs.positions.positions.Given as goal

abbrev pub invariant-lanes : goal.invariant-lanes
invariant-lanes l = (q : ℕ) → map_get nat_eq l.map q ≡ position_in l.lanes l.number q
