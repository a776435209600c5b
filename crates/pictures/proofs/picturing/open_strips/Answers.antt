use Rattle.std.proofs.Common.{arith}
use Rattle.pictures.proofs.Nexts.{take_next}
use Rattle.pictures.proofs.Films.{AreOpenStrips-more}
use Rattle.pictures.proofs.picturing.open_strips.Goals as goal

pub drawn-preserved : goal.drawn-preserved
drawn-preserved c =
    rw (take_next c.args.drawn.now c.drawn.number-index 0 (omega arith), c.in_ok-push.ensures.items)
    (AreOpenStrips-more _ _ _ _ c.drawn.invariant c.open_strip.ensures)
