use Rattle.std.proofs.Common.{rules}
use Rattle.picture_text.proofs.words.word_words.Goals as goal

pub returns : goal.returns
returns c = search rules
