use Rattle.std.proofs.Common.{rules}
use Rattle.thread_hints.proofs.HintsClone.clone.Goals as goal

pub returns : goal.returns
returns c = search rules
