use Rattle.std.proofs.Common.{arith}
use Rattle.std.proofs.lemmas.Grind.{common_steps}
use Rattle.picture_text.proofs.Escaping.{escaped_append}
use Rattle.picture_text.specs.Labels.{cut}
use Rattle.picture_text.proofs.labels.put_cut.Goals as goal

pub returns : goal.returns
unfolding cut
returns c = grind (arith, common_steps, escaped_append)
