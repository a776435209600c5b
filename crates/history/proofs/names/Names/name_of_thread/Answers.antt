use Rattle.std.proofs.Common.{rules}
use Rattle.history.proofs.names.Names.name_of_thread.Goals as goal

pub returns : goal.returns
returns c = search rules
