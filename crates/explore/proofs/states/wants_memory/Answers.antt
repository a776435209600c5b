use Rattle.std.proofs.Common.{rules}
use Rattle.explore.proofs.states.wants_memory.Goals as goal

pub returns-in_default : goal.returns-in_default
returns-in_default c = search rules
