use Rattle.std.proofs.Common.{rules}
use Rattle.step_core.proofs.stages.take.Goals as goal

pub returns-then-contended : goal.returns-then-contended
returns-then-contended c = search rules

pub returns : goal.returns
returns c = search rules
