use Rattle.std.proofs.Common.{rules}
use Rattle.lock_word.proofs.lock_of.Goals as goal

pub returns : goal.returns
returns c = search rules
