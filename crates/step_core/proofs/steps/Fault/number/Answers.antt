use Rattle.std.proofs.Common.{rules}
use Rattle.step_core.proofs.steps.Fault.number.Goals as goal

pub returns-9 : goal.returns-9
returns-9 c = search rules
