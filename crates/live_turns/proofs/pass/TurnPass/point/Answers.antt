use Rattle.std.proofs.Common.{rules}
use Rattle.live_turns.proofs.pass.TurnPass.point.Goals as goal

pub returns : goal.returns
returns g c = search rules
