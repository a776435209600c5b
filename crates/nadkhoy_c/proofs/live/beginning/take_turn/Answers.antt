use Rattle.std.proofs.Common.{rules}
use Rattle.nadkhoy_c.proofs.live.beginning.take_turn.Goals as goal

pub returns : goal.returns
returns c = search rules
