use Rattle.std.proofs.Common.{length}
use Rattle.json.specs.Lex.{lex, between}
use Rattle.history_moves.proofs.Lexing.{SoFar}
use Rattle.history_moves.proofs.spelled.bytes.spelled_move.Given as goal

abbrev pub invariant-members : goal.invariant-members
invariant-members l = SoFar l.initial.rest l.rest l.found

abbrev pub decreases-members : goal.decreases-members
decreases-members l = length (lex between l.rest)
