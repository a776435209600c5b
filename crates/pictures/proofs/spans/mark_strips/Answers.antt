use Rattle.std.proofs.Common.{◌<◌, arith, length}
use Rattle.pictures.proofs.MoreColumns.{strips_written}
use Rattle.pictures.proofs.Nexts.{same_behind}
use Rattle.pictures.proofs.spans.mark_strips.Goals as goal

pub strips-preserved : goal.strips-preserved
strips-preserved c =
    let here : c.strips.position < length c.args.strips.now = omega arith in
    let there : c.strips.position < length c.strips.strips = omega arith in
    record {
      marked = strips_written _ c.args.words.now c.args.column c.args.strips.now c.strips.strips c.strips.position c.index-strips-position.result _ here there c.strips.invariant.left c.strips.invariant.marked (rw c.word_in.ensures at c.in_ok-mark_strip.ensures);
      left = same_behind c.args.strips.now c.strips.strips c.strips.position _ here there c.strips.invariant.left;
    }
