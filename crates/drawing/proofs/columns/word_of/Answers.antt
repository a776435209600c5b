use Rattle.std.proofs.Common.{rules}
use Rattle.drawing.proofs.columns.word_of.Goals as goal

pub returns-then-number-objects : goal.returns-then-number-objects
returns-then-number-objects c = search rules
