use Rattle.step_core.proofs.Lists.Reached.{reached_keeps}
use Rattle.step_core.proofs.laws.every_list_of_steps_keeps_the_world.Goals as goal

pub returns-clause-kept : goal.returns-clause-kept
returns-clause-kept c = reached_keeps
