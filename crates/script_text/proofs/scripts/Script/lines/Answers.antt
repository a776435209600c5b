use Rattle.std.proofs.Common.{rules}
use Rattle.script_text.proofs.scripts.Script.lines.Goals as goal

pub returns-clause-lines : goal.returns-clause-lines
returns-clause-lines c = search rules
