use Rattle.std.proofs.Common.{rules}
use Rattle.jls_check.proofs.machine.Machine.live.Goals as goal

pub returns-clause-kept : goal.returns-clause-kept
returns-clause-kept c = search rules

pub returns-clause-shown : goal.returns-clause-shown
returns-clause-shown c = search rules
