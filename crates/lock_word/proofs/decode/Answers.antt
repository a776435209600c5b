use Rattle.std.proofs.Common.{rules}
use Rattle.lock_word.proofs.decode.Goals as goal

pub returns-then-index-gt0-clause-shown : goal.returns-then-index-gt0-clause-shown
returns-then-index-gt0-clause-shown c = search rules

pub returns-then-index-gt0-clause-spelled : goal.returns-then-index-gt0-clause-spelled
returns-then-index-gt0-clause-spelled c = search rules

pub returns-then-bits-ge2147483648-clause-shown : goal.returns-then-bits-ge2147483648-clause-shown
returns-then-bits-ge2147483648-clause-shown c = search rules

pub returns-then-bits-ge2147483648-clause-spelled : goal.returns-then-bits-ge2147483648-clause-spelled
returns-then-bits-ge2147483648-clause-spelled c = search rules
