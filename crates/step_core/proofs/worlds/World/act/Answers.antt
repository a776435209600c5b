use Rattle.std.proofs.Common.{rules}
use Rattle.step_core.proofs.worlds.World.act.Goals as goal

pub returns-in-Some-Back-clause-shown : goal.returns-in-Some-Back-clause-shown
returns-in-Some-Back-clause-shown c = search rules
