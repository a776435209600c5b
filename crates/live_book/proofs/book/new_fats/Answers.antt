use Rattle.live_book.proofs.Replaying.{next_thread}
use Rattle.live_book.proofs.book.new_fats.Goals as goal

pub loop-done-preserved : goal.loop-done-preserved
loop-done-preserved c =
    next_thread c.loop-done.fats c.attach.new.self c.loop-done.done c.from.result c.args.monitors c.loop-done.invariant.0 c.from.ensures c.in-Ok.ensures.attached c.in-Ok.ensures.fresh c.loop-done.invariant.1
