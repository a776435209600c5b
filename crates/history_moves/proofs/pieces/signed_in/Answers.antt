use Rattle.std.proofs.Common.{rules}
use Rattle.history_moves.proofs.pieces.signed_in.Goals as goal

pub returns-in-Some-clause-number : goal.returns-in-Some-clause-number
returns-in-Some-clause-number c = search rules
