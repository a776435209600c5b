use Rattle.std.proofs.Common.{arith}
use Rattle.std.proofs.lemmas.Grind.{common_steps}
use Rattle.header_words.proofs.open.new_rows.Goals as goal

pub loop-done-preserved : goal.loop-done-preserved
loop-done-preserved c = record {
  rows = grind (arith, common_steps);
  len = grind (arith, common_steps);
}
