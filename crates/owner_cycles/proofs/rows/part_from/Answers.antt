use Rattle.std.proofs.Common.{arith}
use Rattle.std.proofs.lemmas.Grind.{common_steps}
use Rattle.owner_cycles.proofs.Parts.{not_yet}
use Rattle.owner_cycles.proofs.rows.part_from.Goals as goal

pub positions-preserved : goal.positions-preserved
positions-preserved c = not_yet c.args.path.now c.positions.position c.args.number 0 c.positions-test.true c.positions.invariant c.if-path-position.false

pub returns-then-path-position : goal.returns-then-path-position
returns-then-path-position c = grind (arith, common_steps)
