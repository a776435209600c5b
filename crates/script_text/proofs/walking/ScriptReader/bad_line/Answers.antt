use Rattle.std.proofs.Common.{rules}
use Rattle.script_text.proofs.walking.ScriptReader.bad_line.Goals as goal

pub returns : goal.returns
returns c = search rules
