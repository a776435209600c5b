use Rattle.std.proofs.Common.{rules}
use Rattle.step_core.proofs.stages.action_on.Goals as goal

pub returns-in-NotifyAll : goal.returns-in-NotifyAll
returns-in-NotifyAll c = search rules
