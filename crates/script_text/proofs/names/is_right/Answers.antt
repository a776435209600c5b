use Rattle.std.proofs.Common.{arith}
use Rattle.std.proofs.lemmas.Grind.{common_steps}
use Rattle.script_text.proofs.names.is_right.Goals as goal

pub returns-then-rest-lt-LONGEST_NAME : goal.returns-then-rest-lt-LONGEST_NAME
returns-then-rest-lt-LONGEST_NAME c = grind (arith, common_steps)
