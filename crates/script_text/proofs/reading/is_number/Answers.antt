use Rattle.std.proofs.Common.{rules}
use Rattle.script_text.proofs.reading.is_number.Goals as goal

pub returns-then-first-ne48 : goal.returns-then-first-ne48
returns-then-first-ne48 c = search rules
