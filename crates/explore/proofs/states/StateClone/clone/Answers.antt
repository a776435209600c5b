use Rattle.std.proofs.Common.{rules}
use Rattle.explore.proofs.states.StateClone.clone.Goals as goal

pub returns : goal.returns
returns c = search rules
