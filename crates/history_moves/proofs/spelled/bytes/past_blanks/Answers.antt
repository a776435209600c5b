use Rattle.std.proofs.Common.{◌≡◌, ◌∷◌, IsTrue, sym, ap, ◌∙◌, rules}
use Rattle.json.specs.Lex.{lex, between}
use Rattle.history_moves.proofs.Lexing.{blank_passed}
use Rattle.history_moves.proofs.spelled.bytes.past_blanks.Goals as goal

pub blanks-preserved : goal.blanks-preserved
blanks-preserved c =
    let first : c.blanks.rest.now ≡ c.in-Some.first.now ∷ c.in-Some.after.now = search rules in
    let blank : IsTrue c.is_blank.result = search rules in
    sym (blank_passed c.in-Some.first.now c.in-Some.after.now (c.is_blank.ensures blank)) ∙ ap (lex between) (sym first) ∙ c.blanks.invariant
