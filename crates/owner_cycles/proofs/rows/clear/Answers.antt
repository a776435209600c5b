use Rattle.std.proofs.Common.{◌≡◌, ◌<◌, length, get_or, arith}
use Rattle.owner_cycles.proofs.Parts.{cleared_next, in_at}
use Rattle.owner_cycles.proofs.rows.clear.Goals as goal

pub bounds-seen-number : goal.bounds-seen-number
bounds-seen-number c =
    let inside : get_or c.args.part.now c.part.number-index 0 < length c.args.seen.now = c.requires _ (in_at c.args.part.now c.part.number-index 0 c.part-test.true) in
    let long : length c.part.seen ≡ length c.args.seen.now = c.part.invariant.long in omega (arith, inside, long)

pub part-preserved : goal.part-preserved
part-preserved c =
    let inside : get_or c.args.part.now c.part.number-index 0 < length c.args.seen.now = c.requires _ (in_at c.args.part.now c.part.number-index 0 c.part-test.true) in
    let long : length c.part.seen ≡ length c.args.seen.now = c.part.invariant.long in
    cleared_next c.args.seen.now c.part.seen c.args.part.now c.part.number-index c.part-test.true c.part.invariant (omega (arith, inside, long))
