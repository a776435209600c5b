use Rattle.std.proofs.Common.{rules}
use Rattle.step_core.proofs.stages.action_about.Goals as goal

pub returns-in-Interrupted : goal.returns-in-Interrupted
returns-in-Interrupted c = search rules
