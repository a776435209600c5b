use Rattle.std.proofs.Common.{rules}
use Rattle.fast_path.proofs.calls.Operation.when_anothers.Goals as goal

pub returns-in-Enter : goal.returns-in-Enter
returns-in-Enter c = search rules
