use Rattle.std.proofs.Common.{rules}
use Rattle.history.proofs.names.NamesDeclared.has.Goals as goal

pub returns : goal.returns
returns c = search rules
