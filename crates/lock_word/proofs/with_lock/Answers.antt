use Rattle.std.proofs.Common.{rules}
use Rattle.lock_word.proofs.with_lock.Goals as goal

pub returns : goal.returns
returns c = search rules
