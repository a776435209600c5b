use Rattle.std.proofs.Common.{◌≡◌, take}
use Rattle.drawing.specs.Columns.{strip_objects}
use Rattle.drawing.proofs.playing.strip_objects.Given as goal

abbrev pub invariant-strips : goal.invariant-strips
invariant-strips l = l.numbers.items ≡ strip_objects (take l.strip-index l.strips)
