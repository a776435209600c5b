use Rattle.std.proofs.Common.{rules}
use Rattle.history_moves.proofs.spelled.bytes.letters_in.Goals as goal

pub returns-clause-text : goal.returns-clause-text
returns-clause-text c = search rules

pub returns-clause-plain : goal.returns-clause-plain
returns-clause-plain c = search rules
