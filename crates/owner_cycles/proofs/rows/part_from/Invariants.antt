use Rattle.std.proofs.Common.{take}
use Rattle.owner_cycles.specs.Rows.{IsIn}
use Rattle.owner_cycles.proofs.rows.part_from.Given as goal

abbrev pub invariant-positions : goal.invariant-positions
invariant-positions l = IsIn l.number (take l.position l.path) → ⊥
