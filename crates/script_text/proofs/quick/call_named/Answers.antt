use Rattle.std.proofs.Common.{rules}
use Rattle.script_text.proofs.quick.call_named.Goals as goal

pub returns-then-eq-2 : goal.returns-then-eq-2
returns-then-eq-2 c = search rules
