use Rattle.std.proofs.Common.{rules}
use Rattle.history.proofs.running.fault_in_want.Goals as goal

pub returns : goal.returns
returns c = search rules
