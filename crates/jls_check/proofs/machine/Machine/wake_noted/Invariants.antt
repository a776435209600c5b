use Rattle.std.proofs.Common.{◌≡◌}
use Rattle.jls_check.specs.Emptied.{emptied}
use Rattle.jls_check.proofs.machine.Machine.wake_noted.Given as goal

abbrev pub invariant-noted : goal.invariant-noted
invariant-noted l = emptied l.self l.object ≡ emptied l.fn.self l.object

abbrev pub decreases-noted : goal.decreases-noted
decreases-noted l = l.left
