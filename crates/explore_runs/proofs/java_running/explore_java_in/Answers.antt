use Rattle.std.proofs.Common.{refl, arith}
use Rattle.std.proofs.lemmas.Grind.{common_steps}
use Rattle.explore_runs.proofs.java_running.explore_java_in.Goals as goal

pub returns-in-Err-TooManyStates-clause-fault : goal.returns-in-Err-TooManyStates-clause-fault
returns-in-Err-TooManyStates-clause-fault g c = record {
  told = refl;
  named = c.in_ok-named.named;
  read = c.in_ok-named.ensures.program;
  more = rw c.in-Err-TooManyStates.field-0-is at c.in-Err-TooManyStates.ensures.reason;
}

pub returns-in-Err-Memory-clause-fault : goal.returns-in-Err-Memory-clause-fault
returns-in-Err-Memory-clause-fault g c = grind (arith, common_steps)
