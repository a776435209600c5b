use Rattle.std.proofs.Common.{string_bytes, ◌∙◌, ◌∷◌}
use Rattle.lock_word.specs.Names.{word_text}
use Rattle.history.proofs.DigitText.{pushed_two, words_text, words_utf8}
use Rattle.history.proofs.words.put_words.Goals as goal

pub from_utf8_unchecked-requires : goal.from_utf8_unchecked-requires
from_utf8_unchecked-requires c =
    words_utf8 _ _ _ _ _ _ _ _ _ _ _ _ _ _ _ _ c.hex_digit.ensures.ascii c.hex_digit-2.ensures.ascii c.hex_digit-3.ensures.ascii c.hex_digit-4.ensures.ascii
    c.hex_digit-5.ensures.ascii c.hex_digit-6.ensures.ascii c.hex_digit-7.ensures.ascii c.hex_digit-8.ensures.ascii
    c.hex_digit-9.ensures.ascii c.hex_digit-10.ensures.ascii c.hex_digit-11.ensures.ascii c.hex_digit-12.ensures.ascii
    c.hex_digit-13.ensures.ascii c.hex_digit-14.ensures.ascii c.hex_digit-15.ensures.ascii c.hex_digit-16.ensures.ascii

pub returns : goal.returns
returns c =
    pushed_two c.push_str.result (string_bytes c.args.report.now) _ (32 ∷ word_text c.args.old.0) (32 ∷ word_text c.args.new.0) (string_bytes c.push_str.new.self)
    (c.from_utf8_unchecked.ensures ∙ words_text c.args.old.0 c.args.new.0 c.hex_digit.result c.hex_digit-2.result c.hex_digit-3.result c.hex_digit-4.result c.hex_digit-5.result c.hex_digit-6.result c.hex_digit-7.result c.hex_digit-8.result c.hex_digit-9.result c.hex_digit-10.result c.hex_digit-11.result c.hex_digit-12.result c.hex_digit-13.result c.hex_digit-14.result c.hex_digit-15.result c.hex_digit-16.result
    c.hex_digit.ensures.digit c.hex_digit-2.ensures.digit c.hex_digit-3.ensures.digit c.hex_digit-4.ensures.digit c.hex_digit-5.ensures.digit c.hex_digit-6.ensures.digit c.hex_digit-7.ensures.digit c.hex_digit-8.ensures.digit c.hex_digit-9.ensures.digit c.hex_digit-10.ensures.digit c.hex_digit-11.ensures.digit c.hex_digit-12.ensures.digit c.hex_digit-13.ensures.digit c.hex_digit-14.ensures.digit c.hex_digit-15.ensures.digit c.hex_digit-16.ensures.digit)
    c.push_str.ensures.bytes
