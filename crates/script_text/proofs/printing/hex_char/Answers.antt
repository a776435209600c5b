use Rattle.std.proofs.Common.{rules}
use Rattle.script_text.proofs.printing.hex_char.Goals as goal

pub returns-else-digit-lt10 : goal.returns-else-digit-lt10
returns-else-digit-lt10 c = search rules
