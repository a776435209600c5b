use Rattle.std.proofs.Common.{length}
use Rattle.history_check.proofs.MoveLists.{IsLeft}
use Rattle.history_check.proofs.move_lists.moves_of.Given as goal

abbrev pub invariant-lines : goal.invariant-lines
invariant-lines l = record {
  left : IsLeft l.fn.text l.left l.objects l.moves.items;
}

abbrev pub decreases-lines : goal.decreases-lines
decreases-lines l = length l.left
