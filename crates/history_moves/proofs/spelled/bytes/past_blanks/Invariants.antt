use Rattle.std.proofs.Common.{◌≡◌, length}
use Rattle.json.specs.Lex.{lex, between}
use Rattle.history_moves.proofs.spelled.bytes.past_blanks.Given as goal

abbrev pub invariant-blanks : goal.invariant-blanks
invariant-blanks l = lex between l.rest ≡ lex between l.bytes

abbrev pub decreases-blanks : goal.decreases-blanks
decreases-blanks l = length l.rest
