use Rattle.std.proofs.Common.{rules}
use Rattle.history_moves.proofs.writing.pushing.push_move.Goals as goal

pub returns-then-is_err-clause-kept : goal.returns-then-is_err-clause-kept
returns-then-is_err-clause-kept c = search rules
