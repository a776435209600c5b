use Rattle.std.proofs.Common.{◌≡◌, List, ◌∷◌, ◌∙◌, length, sym, ap, rules}
use Rattle.json.specs.Token.{end_object}
use Rattle.json.specs.Lex.{Lexeme, token}
use Rattle.history_moves.proofs.Lexing.{end_lexed, nothing_lexed}
use Rattle.history_moves.proofs.spelled.bytes.is_last.Goals as goal

pub returns-in-Some : goal.returns-in-Some
returns-in-Some c = λ yes.
    let none : length c.past_blanks.result.now ≡ 0 = search rules in
    end_lexed _ _ c.in-Some.ensures ∙ ap (λ (ls : List Lexeme). token end_object ∷ ls) (sym c.past_blanks.ensures ∙ nothing_lexed c.past_blanks.result.now none)
