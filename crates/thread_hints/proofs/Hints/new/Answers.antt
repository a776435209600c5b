use Rattle.std.proofs.Common.{rules}
use Rattle.thread_hints.proofs.Hints.new.Goals as goal

pub returns : goal.returns
returns c = search rules
