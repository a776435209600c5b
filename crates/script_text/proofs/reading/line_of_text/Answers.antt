use Rattle.std.proofs.Common.{rules}
use Rattle.script_text.proofs.reading.line_of_text.Goals as goal

pub returns : goal.returns
returns c = search rules
