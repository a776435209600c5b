use Rattle.std.proofs.Common.{List, ℕ, ◌∷◌, ◌++◌, ◌∙◌, sym, ap}
use Rattle.json.specs.Token.{string}
use Rattle.json.specs.Lex.{Lexeme, lex, between, token}
use Rattle.history_moves.specs.GatheredMembers.{key_text}
use Rattle.history_moves.proofs.Lexing.{key_lexed, colon_lexed}
use Rattle.history_moves.proofs.spelled.bytes.key_in.Goals as goal

pub returns : goal.returns
returns c =
    let key = c.in_ok-key.key in
    let after = c.in_ok-behind-2.field-0.now in
    sym c.past_blanks.ensures ∙ ap (lex between) c.in_ok-behind.ensures
    ∙ key_lexed _ after key (c.in_ok-key.ensures ∙ ap (λ (l : List ℕ). key_text key ++ l) c.in_ok-behind-2.ensures)
    ∙ ap (λ (ls : List Lexeme). token (string (key_text key)) ∷ ls) (sym c.past_blanks-after.ensures ∙ colon_lexed _ _ c.in_ok-behind-3.ensures)
