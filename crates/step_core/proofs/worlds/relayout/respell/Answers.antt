use Rattle.std.proofs.Common.{◌≡◌, slice_index_or}
use Rattle.lock_word.specs.Layout.{lock_of, with_lock}
use Rattle.step_core.specs.World.{low_word}
use Rattle.step_core.proofs.Relaying.Respelling.{one_more_respelled}
use Rattle.step_core.proofs.worlds.relayout.respell.Goals as goal

pub loop-word-preserved : goal.loop-word-preserved
loop-word-preserved c =
    let written : c.with_lock.result.0 ≡ with_lock c.args.new (slice_index_or c.loop-word.word-items c.loop-word.word-index (low_word 0)).0
    (lock_of c.args.old (slice_index_or c.loop-word.word-items c.loop-word.word-index (low_word 0)).0) = rw (← c.lock_of.ensures) c.with_lock.ensures in
    one_more_respelled c.args.old c.args.new c.args.words.now.items c.loop-word.word-items c.loop-word.word-index c.with_lock.result (rw c.deref_mut-word-items.ensures.value at c.loop-word-test.true)
    c.loop-word.invariant written
