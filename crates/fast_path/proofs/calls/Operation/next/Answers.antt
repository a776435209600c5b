use Rattle.std.proofs.Common.{rules}
use Rattle.fast_path.proofs.calls.Operation.next.Goals as goal

pub returns-in-Thin : goal.returns-in-Thin
returns-in-Thin c = search rules
