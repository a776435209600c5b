use Rattle.std.proofs.Common.{arith}
use Rattle.std.proofs.lemmas.Grind.{common_steps}
use Rattle.picture_text.specs.Labels.{cut_label}
use Rattle.picture_text.proofs.labels.put_cut_label.Goals as goal

pub returns : goal.returns
unfolding cut_label
returns c = grind (arith, common_steps)
