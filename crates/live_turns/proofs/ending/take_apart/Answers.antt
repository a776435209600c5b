use Rattle.std.proofs.Common.{arith}
use Rattle.std.proofs.lemmas.Grind.{common_steps}
use Rattle.live_turns.proofs.ending.take_apart.Goals as goal

pub loop-pass-preserved : goal.loop-pass-preserved
loop-pass-preserved g c = record {
  row = grind (arith, common_steps);
  others = grind (arith, common_steps);
  words = grind (arith, common_steps);
  rests = grind (arith, common_steps);
  words_room = grind (arith, common_steps);
  rests_room = grind (arith, common_steps);
  room = grind (arith, common_steps);
}
