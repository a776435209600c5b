use Rattle.std.proofs.Common.{arith}
use Rattle.std.proofs.lemmas.Grind.{common_steps}
use Rattle.picture_text.specs.Strips.{free_title}
use Rattle.picture_text.proofs.strips.put_free_title.Goals as goal

pub returns : goal.returns
unfolding free_title
returns c = grind (arith, common_steps)
