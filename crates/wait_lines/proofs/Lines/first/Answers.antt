use Rattle.std.proofs.Common.{rules}
use Rattle.wait_lines.proofs.Lines.first.Goals as goal

pub returns-clause-first : goal.returns-clause-first
returns-clause-first c = search rules
