use Rattle.std.proofs.Common.{arith}
use Rattle.std.proofs.lemmas.Grind.{common_steps}
use Rattle.picture_text.specs.Refusals.{refusal_node}
use Rattle.picture_text.proofs.refusals.put_refusal.Goals as goal

pub returns : goal.returns
unfolding refusal_node
returns c = grind (arith, common_steps)
