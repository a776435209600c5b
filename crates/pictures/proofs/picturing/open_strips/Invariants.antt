use Rattle.std.proofs.Common.{take}
use Rattle.pictures.specs.Pictures.{AreOpenStrips}
use Rattle.pictures.proofs.picturing.open_strips.Given as goal

abbrev pub invariant-drawn : goal.invariant-drawn
invariant-drawn l = AreOpenStrips (take l.number-index l.drawn) l.strips.items
