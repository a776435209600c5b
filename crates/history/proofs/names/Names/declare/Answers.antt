use Rattle.std.proofs.Common.{rules}
use Rattle.history.proofs.names.Names.declare.Goals as goal

pub returns-clause-noted : goal.returns-clause-noted
returns-clause-noted c = search rules
