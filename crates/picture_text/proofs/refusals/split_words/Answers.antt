use Rattle.std.proofs.Common.{rules}
use Rattle.picture_text.proofs.refusals.split_words.Goals as goal

pub returns-in-Wide : goal.returns-in-Wide
returns-in-Wide c = search rules
