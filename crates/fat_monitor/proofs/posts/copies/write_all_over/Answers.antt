use Rattle.std.proofs.Common.{◌∙◌, refl}
use Rattle.fat_monitor.proofs.Overwriting.{AreBeingWritten-first, AreBeingWritten-next, AreWrittenOver-last}
use Rattle.fat_monitor.proofs.posts.copies.write_all_over.Goals as goal

pub loop-key-init : goal.loop-key-init
loop-key-init c = record {
  may = tt;
  ends = tt;
  written = AreBeingWritten-first c.args.records.now c.args.over.now _ (c.into_iter-key-iterator.ensures.into_iter_gives ∙ c.iter-key-items.ensures.rest);
}

pub loop-key-preserved : goal.loop-key-preserved
loop-key-preserved c = record {
  may = tt;
  ends = tt;
  written = AreBeingWritten-next c.args.records.now c.args.over.now c.loop-key.over c.write_over.new.over _ _ c.in-Some.key c.in-Some.record.now
      c.loop-key.invariant.written c.in-Some.ensures.steps (c.if-not-write_over.ensures.led.0 refl) (c.if-not-write_over.ensures.written refl);
}

pub returns : goal.returns
returns c t = AreWrittenOver-last c.args.records.now c.args.over.now c.loop-key.over _ c.in-None.ensures.steps.0 c.loop-key.invariant.written
