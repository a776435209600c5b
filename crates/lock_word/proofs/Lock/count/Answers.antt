use Rattle.std.proofs.Common.{rules}
use Rattle.lock_word.proofs.Lock.count.Goals as goal

pub returns-in-Thin : goal.returns-in-Thin
returns-in-Thin c = search rules
