use Rattle.std.proofs.Common.{arith}
use Rattle.std.proofs.lemmas.Grind.{common_steps}
use Rattle.live_scripts.proofs.plans.rows_of.Goals as goal

pub threads-preserved : goal.threads-preserved
threads-preserved c = grind (arith, common_steps)

pub threads-init : goal.threads-init
threads-init c = grind (arith, common_steps)

pub offset_bounds-threads-thread-index : goal.offset_bounds-threads-thread-index
offset_bounds-threads-thread-index c = grind (arith, common_steps)

pub bounds-threads-thread-index : goal.bounds-threads-thread-index
bounds-threads-thread-index c = grind (arith, common_steps)

pub slice_bounds-calls_of-end : goal.slice_bounds-calls_of-end
slice_bounds-calls_of-end c = grind (arith, common_steps)

pub calls_of-requires-clause-objects : goal.calls_of-requires-clause-objects
calls_of-requires-clause-objects c = grind (arith, common_steps)

pub calls_of-requires-clause-threads : goal.calls_of-requires-clause-threads
calls_of-requires-clause-threads c = grind (arith, common_steps)

pub returns-in_err-calls_of : goal.returns-in_err-calls_of
returns-in_err-calls_of c = grind (arith, common_steps)

pub returns-in_err-push : goal.returns-in_err-push
returns-in_err-push c = grind (arith, common_steps)

pub threads-smaller : goal.threads-smaller
threads-smaller c = grind (arith, common_steps)

pub returns : goal.returns
returns c = grind (arith, common_steps)
