use Rattle.std.proofs.Common.{rules}
use Rattle.jls_check.proofs.machine.Machine.next_of.Goals as goal

pub returns-then-owner-thread : goal.returns-then-owner-thread
returns-then-owner-thread c = search rules

pub returns-else-owner-thread : goal.returns-else-owner-thread
returns-else-owner-thread c = search rules
