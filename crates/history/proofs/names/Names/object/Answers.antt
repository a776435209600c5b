use Rattle.std.proofs.Common.{rules}
use Rattle.history.proofs.names.Names.object.Goals as goal

pub returns-clause-found : goal.returns-clause-found
returns-clause-found c = search rules
