use Rattle.fat_monitor.proofs.Steps.{replies_at}
use Rattle.fat_monitor.proofs.monitors.Fats.end.Goals as goal

pub returns-then-owns_one : goal.returns-then-owns_one
returns-then-owns_one c = rw (← c.if-owns_one.ensures) (c.reply_with.ensures _)

pub returns : goal.returns
returns c = rw (← c.if-owns_one.ensures) (replies_at c.reply_with-2.result _ _ _ c.reply_with-2.ensures c.remove.ensures.removed)
