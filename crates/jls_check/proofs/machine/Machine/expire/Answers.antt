use Rattle.std.proofs.Common.{rules}
use Rattle.jls_check.proofs.machine.Machine.expire.Goals as goal

pub returns : goal.returns
returns c = search rules
