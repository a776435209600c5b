use Rattle.std.proofs.Common.{None, ◌∙◌, arith}
use Rattle.pictures.specs.declared.picture.StripSpan.{StripSpan}
use Rattle.pictures.proofs.MoreColumns.{columns_left, hand_overs_left}
use Rattle.pictures.proofs.arrows.put_hand_overs.Goals as goal

abbrev none : StripSpan
none = record { columns = 0; held = record { owner = None; count = 0 }; word = None }

pub overflow_add-column : goal.overflow_add-column
overflow_add-column c =
    let e = columns_left c.args.spans.now c.spans.span-index c.spans.column none (omega arith) in
    omega (arith, e, c.spans.invariant.small)

pub spans-preserved : goal.spans-preserved
spans-preserved c =
    let e = columns_left c.args.spans.now c.spans.span-index c.spans.column none (omega arith) in
    record {
      small = omega (arith, e, c.spans.invariant.small);
      arrows = rw (c.in_ok-put_hand_over.ensures, c.last_after-last.ensures) (hand_overs_left _ _ c.args.spans.now c.spans.span-index _ none (omega arith) ∙ c.spans.invariant.arrows);
    }
