use Rattle.std.proofs.Common.{rules}
use Rattle.script_text.proofs.scripts.read_beginning.Goals as goal

pub returns : goal.returns
returns c = search rules
