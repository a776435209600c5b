use Rattle.std.proofs.Common.{rules}
use Rattle.thread_hints.proofs.Hints.widen_for.Goals as goal

pub returns-in-Ok-clause-wider : goal.returns-in-Ok-clause-wider
returns-in-Ok-clause-wider c = search rules
