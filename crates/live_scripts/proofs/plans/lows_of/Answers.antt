use Rattle.std.proofs.Common.{arith}
use Rattle.std.proofs.lemmas.Grind.{common_steps}
use Rattle.live_scripts.proofs.Positions.{lows_more}
use Rattle.live_scripts.proofs.plans.lows_of.Goals as goal

pub lines-preserved : goal.lines-preserved
lines-preserved c = lows_more c.args.lines.now c.lines.line-index c.line-item.result c.lines.lows.items c.note_low.new.lows.items c.lines-test.true c.line-item.is c.lines.invariant c.in_ok-note_low.ensures

pub returns : goal.returns
returns c = grind (arith, common_steps)
