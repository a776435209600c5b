use Rattle.step_core.proofs.Lists.Rings.{reached_cycle}
use Rattle.step_core.proofs.cycles.a_cycle_of_owners_stays.Goals as goal

pub returns-clause-kept : goal.returns-clause-kept
returns-clause-kept c = reached_cycle
