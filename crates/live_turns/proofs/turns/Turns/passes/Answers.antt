use Rattle.std.proofs.Common.{rules}
use Rattle.live_turns.proofs.turns.Turns.passes.Goals as goal

pub returns : goal.returns
returns g c = search rules
