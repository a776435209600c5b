use Rattle.std.proofs.Common.{rules}
use Rattle.jls_check.proofs.machine.Machine.notify_nobody.Goals as goal

pub returns : goal.returns
returns c = search rules
