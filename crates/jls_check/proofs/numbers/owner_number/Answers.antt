use Rattle.std.proofs.Common.{rules}
use Rattle.jls_check.proofs.numbers.owner_number.Goals as goal

pub returns-in-Some : goal.returns-in-Some
returns-in-Some c = search rules
