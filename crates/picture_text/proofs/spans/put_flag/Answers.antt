use Rattle.std.proofs.Common.{arith}
use Rattle.std.proofs.lemmas.Grind.{common_steps}
use Rattle.picture_text.specs.Spans.{flag_node}
use Rattle.picture_text.proofs.spans.put_flag.Goals as goal

pub returns : goal.returns
unfolding flag_node
returns c = grind (arith, common_steps)
