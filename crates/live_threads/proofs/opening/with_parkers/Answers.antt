use Rattle.std.proofs.Common.{rules, arith}
use Rattle.std.proofs.lemmas.Grind.{common_steps}
use Rattle.live_threads.proofs.opening.with_parkers.Goals as goal

pub loop-turns-preserved : goal.loop-turns-preserved
loop-turns-preserved g c = record {
  len = grind (arith, common_steps);
  room = grind (arith, common_steps);
  rest = grind (arith, common_steps);
  row = grind (arith, common_steps);
}

pub unreachable-requires : goal.unreachable-requires
unreachable-requires g c = grind (arith, common_steps)

pub loop-turns-smaller : goal.loop-turns-smaller
loop-turns-smaller g c = grind (arith, common_steps)

pub returns : goal.returns
returns g c = search rules
