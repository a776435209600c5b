use Rattle.std.proofs.Common.{rules}
use Rattle.jls_check.proofs.slots.shrink.Goals as goal

pub returns-then-capacity-len : goal.returns-then-capacity-len
returns-then-capacity-len c = search rules
