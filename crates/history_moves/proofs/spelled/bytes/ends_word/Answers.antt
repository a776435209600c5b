use Rattle.std.proofs.Common.{rules}
use Rattle.history_moves.proofs.spelled.bytes.ends_word.Goals as goal

pub returns-then-matches : goal.returns-then-matches
returns-then-matches c = search rules
