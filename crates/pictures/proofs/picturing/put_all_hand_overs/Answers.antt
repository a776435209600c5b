use Rattle.std.proofs.Common.{arith}
use Rattle.std.proofs.lemmas.Grind.{common_steps}
use Rattle.pictures.proofs.picturing.put_all_hand_overs.Goals as goal

pub strips-preserved : goal.strips-preserved
strips-preserved c = grind (arith, common_steps)
