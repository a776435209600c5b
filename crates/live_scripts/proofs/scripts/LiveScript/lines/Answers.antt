use Rattle.std.proofs.Common.{rules}
use Rattle.live_scripts.proofs.scripts.LiveScript.lines.Goals as goal

pub returns-clause-lines : goal.returns-clause-lines
returns-clause-lines c = search rules
