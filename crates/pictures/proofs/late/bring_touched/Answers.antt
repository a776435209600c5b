use Rattle.std.proofs.Common.{◌<◌, arith, length}
use Rattle.pictures.proofs.Nexts.{same_behind}
use Rattle.pictures.proofs.Zips.{zip_written}
use Rattle.pictures.proofs.late.bring_touched.Goals as goal

pub lanes-preserved : goal.lanes-preserved
lanes-preserved c =
    let here : c.lanes.late-index < length c.args.lanes.now = omega arith in
    let there : c.lanes.late-index < length c.lanes.lanes = omega arith in
    record {
      brought = zip_written _ c.args.lanes.now c.lanes.lanes c.lanes.late-index c.late-item.result _ here there c.lanes.invariant.left c.lanes.invariant.brought c.in_ok-bring_if_touched.ensures;
      left = same_behind c.args.lanes.now c.lanes.lanes c.lanes.late-index _ here there c.lanes.invariant.left;
    }
