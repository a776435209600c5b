use Rattle.std.proofs.Common.{rules}
use Rattle.history.proofs.running.plan_in.Goals as goal

pub returns-in-Err-Memory-clause-fault : goal.returns-in-Err-Memory-clause-fault
returns-in-Err-Memory-clause-fault c = search rules
