use Rattle.std.proofs.Common.{rules}
use Rattle.script_text.proofs.quick.quick_step.Goals as goal

pub returns-in-Some : goal.returns-in-Some
returns-in-Some c = search rules
