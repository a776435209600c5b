use Rattle.history.proofs.DigitText.{word_utf8}
use Rattle.history.proofs.words.put_word.Goals as goal

pub from_utf8_unchecked-requires : goal.from_utf8_unchecked-requires
from_utf8_unchecked-requires c =
    word_utf8 _ _ _ _ _ _ _ _ c.hex_digit.ensures.ascii c.hex_digit-2.ensures.ascii c.hex_digit-3.ensures.ascii c.hex_digit-4.ensures.ascii
    c.hex_digit-5.ensures.ascii c.hex_digit-6.ensures.ascii c.hex_digit-7.ensures.ascii c.hex_digit-8.ensures.ascii
