use Rattle.std.proofs.Common.{rules}
use Rattle.history.proofs.names.Names.forget_hints.Goals as goal

pub returns : goal.returns
returns c = search rules
