use Rattle.std.proofs.Common.{◌≡◌, take}
use Rattle.drawing.specs.Columns.{words_of}
use Rattle.drawing.proofs.columns.words_of.Given as goal

abbrev pub invariant-drawn : goal.invariant-drawn
invariant-drawn l = l.words.items ≡ words_of l.world (take l.number-index l.drawn)
