use Rattle.std.proofs.Common.{rules}
use Rattle.picture_text.proofs.layout.Layout.x_at.Goals as goal

pub returns-clause-x : goal.returns-clause-x
returns-clause-x c = search rules
