use Rattle.std.proofs.Common.{rules}
use Rattle.explore.proofs.states.State.clone_into.Goals as goal

pub returns : goal.returns
returns c = search rules
