use Rattle.std.proofs.Common.{length}
use Rattle.history.specs.PlanSoFar.{IsPlanSoFar}
use Rattle.history.proofs.running.plan_as_read.Given as goal

abbrev pub invariant-lines : goal.invariant-lines
invariant-lines l = IsPlanSoFar l.bytes l.plan l.lines

abbrev pub decreases-lines : goal.decreases-lines
decreases-lines l = length l.lines.rest
