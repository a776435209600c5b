use Rattle.std.proofs.Common.{take}
use Rattle.owner_cycles.specs.Rows.{AreCleared}
use Rattle.owner_cycles.proofs.rows.clear.Given as goal

abbrev pub invariant-part : goal.invariant-part
invariant-part l = AreCleared l.fn.seen l.seen (take l.number-index l.part)
