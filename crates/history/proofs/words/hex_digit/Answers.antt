use Rattle.std.proofs.Common.{rules}
use Rattle.history.proofs.words.hex_digit.Goals as goal

pub returns-else-digit-lt10-clause-digit : goal.returns-else-digit-lt10-clause-digit
returns-else-digit-lt10-clause-digit c = search rules
