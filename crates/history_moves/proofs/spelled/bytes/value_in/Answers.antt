use Rattle.std.proofs.Common.{◌≡◌, true, ◌∙◌, sym, ap, refl, option_map, rules}
use Rattle.json.specs.Lex.{lex, between}
use Rattle.json.specs.Word.{ends_word}
use Rattle.serde_json.specs.Data.{number}
use Rattle.serde_json.proofs.Numbers.{number_of-decimal}
use Rattle.history_moves.proofs.Lexing.{string_lexed, number_lexed, null_lexed}
use Rattle.history_moves.proofs.spelled.bytes.value_in.Goals as goal

pub returns-in-Some : goal.returns-in-Some
returns-in-Some c =
    let word = c.in_ok-word in (
      sym c.past_blanks-bytes.ensures ∙ ap (lex between) c.in-Some.ensures ∙ string_lexed _ word.word.now word.after.now word.ensures.text word.ensures.plain,
      refl,
    )

pub returns-then-ends_word : goal.returns-then-ends_word
returns-then-ends_word c =
    let found = c.in-Some-number_in in
    let ends : ends_word found.after.now ≡ true = search rules in (
      sym c.past_blanks-bytes.ensures ∙ number_lexed _ found.after.now found.number found.ensures.number found.ensures.small ends,
      ap (option_map number) (number_of-decimal found.number found.ensures.small),
    )

pub returns-then-ends_word-2 : goal.returns-then-ends_word-2
returns-then-ends_word-2 c =
    let ends : ends_word c.in_ok-after.after.now ≡ true = search rules in
    (sym c.past_blanks-bytes.ensures ∙ null_lexed _ c.in_ok-after.after.now c.in_ok-after.ensures ends, refl)
