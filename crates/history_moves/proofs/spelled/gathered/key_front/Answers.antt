use Rattle.std.proofs.Common.{rules}
use Rattle.history_moves.proofs.spelled.gathered.key_front.Goals as goal

pub returns-in-Some-behind-7 : goal.returns-in-Some-behind-7
returns-in-Some-behind-7 c = search rules
