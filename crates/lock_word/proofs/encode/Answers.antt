use Rattle.std.proofs.Common.{rules}
use Rattle.lock_word.proofs.encode.Goals as goal

pub returns-in-Fat : goal.returns-in-Fat
returns-in-Fat c = search rules
