use Rattle.std.proofs.Common.{rules}
use Rattle.lock_word.proofs.Split.greatest_index.Goals as goal

pub returns-in-Deep : goal.returns-in-Deep
returns-in-Deep c = search rules
