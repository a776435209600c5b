use Rattle.std.proofs.Common.{rules}
use Rattle.step_core.proofs.stages.act.Goals as goal

pub returns-in-Reply : goal.returns-in-Reply
returns-in-Reply c = search rules
