use Rattle.std.proofs.Common.{arith}
use Rattle.std.proofs.lemmas.Grind.{common_steps}
use Rattle.picture_text.proofs.Escaping.{escaped_char}
use Rattle.picture_text.specs.Nodes.{escaped}
use Rattle.picture_text.proofs.escapes.put_char.Goals as goal

pub returns-in_default : goal.returns-in_default
unfolding escaped
returns-in_default c = grind (arith, common_steps, escaped_char)

pub returns-in-60 : goal.returns-in-60
unfolding escaped
returns-in-60 c = grind (arith, common_steps)
