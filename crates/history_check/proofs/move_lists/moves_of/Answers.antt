use Rattle.history_check.proofs.MoveLists.{has_first, first_tells, begins, line_is, goes_on, ends}
use Rattle.history_check.proofs.move_lists.moves_of.Goals as goal

pub unreachable-requires : goal.unreachable-requires
unreachable-requires c = has_first _ _ c.requires.1 c.in_default.ensures.parts

pub unreachable-requires-in_default-2 : goal.unreachable-requires-in_default-2
unreachable-requires-in_default-2 c =
    first_tells _ _ _ _ c.requires.1 c.in-Some.ensures.parts.0 c.in-Some.ensures.parts.1
    (rw c.in_default-2.is at c.in_ok-objects.ensures.none)

pub lines-init : goal.lines-init
lines-init c =
    rw c.new-moves.ensures.items record {
      left = begins _ _ _ _ _ c.requires.1 c.in-Some.ensures.parts.0 c.in-Some.ensures.parts.1
          (rw c.in-Some-2.is at c.in_ok-objects.ensures.found);
    }

pub unreachable-requires-in_default-3 : goal.unreachable-requires-in_default-3
unreachable-requires-in_default-3 c =
    line_is _ _ _ _ _ _ c.lines.invariant.left c.in-Some-cut_line.ensures.parts.0 c.in-Some-cut_line.ensures.parts.1
    (rw c.in_default-3.is at c.in_ok-made.ensures.none)

pub lines-preserved : goal.lines-preserved
lines-preserved c = record {
  left = rw c.in_ok-push.ensures.items (goes_on _ _ _ _ _ _ _ c.lines.invariant.left c.in-Some-cut_line.ensures.parts.0 c.in-Some-cut_line.ensures.parts.1
      (rw c.in-Some-3.is at c.in_ok-made.ensures.found));
}

pub returns : goal.returns
returns c = ends _ _ _ _ c.lines.invariant.left c.in_default-cut_line.ensures.parts
