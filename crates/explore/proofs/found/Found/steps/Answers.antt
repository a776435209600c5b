use Rattle.std.proofs.Common.{rules}
use Rattle.explore.proofs.found.Found.steps.Goals as goal

pub returns : goal.returns
returns c = search rules
