use Rattle.std.proofs.Common.{rules}
use Rattle.picture_text.specs.Refusals.{step_node}
use Rattle.picture_text.proofs.refusals.put_step.Goals as goal

pub returns-in-Spurious : goal.returns-in-Spurious
unfolding step_node
returns-in-Spurious c = rw c.in-Spurious.is c.put_verb-in-Spurious.ensures

pub returns-in-Expire : goal.returns-in-Expire
unfolding step_node
returns-in-Expire c = search rules
