use Rattle.std.proofs.Common.{rules}
use Rattle.pictures.proofs.columns.Column.of.Goals as goal

pub returns-clause-moves : goal.returns-clause-moves
returns-clause-moves c = search rules
