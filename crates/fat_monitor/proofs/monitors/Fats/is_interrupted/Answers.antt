use Rattle.fat_monitor.proofs.monitors.Fats.is_interrupted.Goals as goal

pub returns-in-Some : goal.returns-in-Some
returns-in-Some c t = rw (← c.in-Some.ensures, ← c.yes_or_no.ensures) (c.reply_with.ensures _)

pub returns-in-None : goal.returns-in-None
returns-in-None c t = rw (← c.in-None.ensures) (c.reply_with-in-None.ensures _)
