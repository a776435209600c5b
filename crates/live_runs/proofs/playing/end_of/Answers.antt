use Rattle.std.proofs.Common.{subst, rules}
use Rattle.live_threads.specs.Ends.{TellsEnd}
use Rattle.live_runs.proofs.playing.end_of.Goals as goal

-- no pass is missing
pub unreachable-requires : goal.unreachable-requires
unreachable-requires g c = subst (λ e. TellsEnd c.args.live.count c.args.passes.items e) c.in-Err-WrongPass.field-0-is c.in-Err-WrongPass.ensures.fault c.requires.back

pub returns-in-Err-Memory-clause-fault : goal.returns-in-Err-Memory-clause-fault
returns-in-Err-Memory-clause-fault g c = search rules
