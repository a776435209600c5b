use Rattle.std.proofs.Common.{rules}
use Rattle.history_moves.proofs.spelled.gathered.fill.Goals as goal

pub returns : goal.returns
returns g c = search rules
