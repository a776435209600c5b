use Rattle.std.proofs.Common.{rules}
use Rattle.wait_lines.proofs.Lines.reservations.Goals as goal

pub returns-clause-reservations : goal.returns-clause-reservations
returns-clause-reservations c = search rules
