use Rattle.std.proofs.Common.{◌≡◌, take}
use Rattle.pictures.specs.Made.{own_calls}
use Rattle.pictures.proofs.marks.calls_of.Given as goal

abbrev pub invariant-made : goal.invariant-made
invariant-made l = l.calls.items ≡ own_calls l.thread (take l.one-index l.made)
