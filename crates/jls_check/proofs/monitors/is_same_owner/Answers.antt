use Rattle.std.proofs.Common.{rules}
use Rattle.jls_check.proofs.monitors.is_same_owner.Goals as goal

pub returns : goal.returns
returns c = search rules
