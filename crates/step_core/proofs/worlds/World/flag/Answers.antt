use Rattle.std.proofs.Common.{rules}
use Rattle.step_core.proofs.worlds.World.flag.Goals as goal

pub returns : goal.returns
returns c = search rules
