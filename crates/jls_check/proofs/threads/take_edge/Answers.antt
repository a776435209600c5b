use Rattle.std.proofs.Common.{rules}
use Rattle.jls_check.proofs.threads.take_edge.Goals as goal

pub returns-in_default-clause-crossed : goal.returns-in_default-clause-crossed
returns-in_default-clause-crossed c = search rules
