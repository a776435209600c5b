use Rattle.std.proofs.Common.{rules}
use Rattle.fast_path.proofs.calls.Operation.when_own.Goals as goal

pub returns-in-Exit : goal.returns-in-Exit
returns-in-Exit c = search rules

pub returns-in-Enter : goal.returns-in-Enter
returns-in-Enter c = search rules

pub returns-in-Enter-2 : goal.returns-in-Enter-2
returns-in-Enter-2 c = search rules
