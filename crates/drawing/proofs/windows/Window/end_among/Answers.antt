use Rattle.std.proofs.Common.{rules}
use Rattle.drawing.proofs.windows.Window.end_among.Goals as goal

pub returns-in-Some-clause-end : goal.returns-in-Some-clause-end
returns-in-Some-clause-end c = search rules
