use Rattle.std.proofs.Common.{◌≡◌, take}
use Rattle.pictures.specs.Made.{own_replies}
use Rattle.pictures.proofs.marks.replies_of.Given as goal

abbrev pub invariant-made : goal.invariant-made
invariant-made l = l.replies.items ≡ own_replies l.thread (take l.one-index l.made)
