use Rattle.fat_monitor.proofs.monitors.Fats.make.Goals as goal

pub returns-in-Holds-clause-table : goal.returns-in-Holds-clause-table
returns-in-Holds-clause-table c = rw (c.in-Holds.is, ← c.is_owner.ensures, ← c.yes_or_no.ensures) (c.reply_with.ensures _)

pub returns-in-Interrupt-clause-table : goal.returns-in-Interrupt-clause-table
returns-in-Interrupt-clause-table c = rw (c.in-Interrupt.is) (c.interrupt.ensures c.args.thread)

pub returns-in-IsInterrupted-clause-table : goal.returns-in-IsInterrupted-clause-table
returns-in-IsInterrupted-clause-table c = rw (c.in-IsInterrupted.is) (c.is_interrupted.ensures c.args.thread)

pub returns-in-Enter-clause-table : goal.returns-in-Enter-clause-table
returns-in-Enter-clause-table c = rw (c.in-Enter.is) c.enter.ensures

pub returns-in-Exit-clause-table : goal.returns-in-Exit-clause-table
returns-in-Exit-clause-table c = rw (c.in-Exit.is) c.exit.ensures

pub returns-in-Notify-clause-table : goal.returns-in-Notify-clause-table
returns-in-Notify-clause-table c = rw (c.in-Notify.is) c.notify.ensures

pub returns-in-NotifyAll-clause-table : goal.returns-in-NotifyAll-clause-table
returns-in-NotifyAll-clause-table c = rw (c.in-NotifyAll.is) c.notify_all.ensures

pub returns-in-Interrupted-clause-table : goal.returns-in-Interrupted-clause-table
returns-in-Interrupted-clause-table c = rw (c.in-Interrupted.is) c.test_and_clear.ensures

pub returns-in-Expire-clause-table : goal.returns-in-Expire-clause-table
returns-in-Expire-clause-table c = rw (c.in-Expire.is) c.expire.ensures

pub returns-in-Spurious-clause-table : goal.returns-in-Spurious-clause-table
returns-in-Spurious-clause-table c = rw (c.in-Spurious.is) c.wake.ensures

pub returns-in-Collect-clause-table : goal.returns-in-Collect-clause-table
returns-in-Collect-clause-table c = rw (c.in-Collect.is) c.collect.ensures

pub returns-in-End-clause-table : goal.returns-in-End-clause-table
returns-in-End-clause-table c = rw (c.in-End.is) c.end.ensures
