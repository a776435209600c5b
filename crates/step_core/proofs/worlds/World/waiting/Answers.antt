use Rattle.std.proofs.Common.{rules}
use Rattle.step_core.proofs.worlds.World.waiting.Goals as goal

pub returns-in-Some-Waiting : goal.returns-in-Some-Waiting
returns-in-Some-Waiting c = search rules
