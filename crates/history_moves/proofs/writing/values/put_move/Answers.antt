use Rattle.history_moves.proofs.writing.values.put_move.Goals as goal

pub returns-in-Attach-clause-written : goal.returns-in-Attach-clause-written
returns-in-Attach-clause-written c = rw (c.in-Attach.is) c.put_plain.ensures

pub returns-in-Lock-clause-written : goal.returns-in-Lock-clause-written
returns-in-Lock-clause-written c = rw (c.in-Lock.is) c.put_plain-in-Lock.ensures

pub returns-in-Unlock-clause-written : goal.returns-in-Unlock-clause-written
returns-in-Unlock-clause-written c = rw (c.in-Unlock.is) c.put_plain-in-Unlock.ensures

pub returns-in-Illegal-clause-written : goal.returns-in-Illegal-clause-written
returns-in-Illegal-clause-written c = rw (c.in-Illegal.is) c.put_plain-in-Illegal.ensures

pub returns-in-BadArgument-clause-written : goal.returns-in-BadArgument-clause-written
returns-in-BadArgument-clause-written c = rw (c.in-BadArgument.is) c.put_plain-in-BadArgument.ensures

pub returns-in-Early-clause-written : goal.returns-in-Early-clause-written
returns-in-Early-clause-written c = rw (c.in-Early.is) c.put_plain-in-Early.ensures

pub returns-in-Wait-clause-written : goal.returns-in-Wait-clause-written
returns-in-Wait-clause-written c = rw (c.in-Wait.is) c.put_plain-in-Wait.ensures

pub returns-in-NotifyAll-clause-written : goal.returns-in-NotifyAll-clause-written
returns-in-NotifyAll-clause-written c = rw (c.in-NotifyAll.is) c.put_plain-in-NotifyAll.ensures

pub returns-in-Interrupt-clause-written : goal.returns-in-Interrupt-clause-written
returns-in-Interrupt-clause-written c = rw (c.in-Interrupt.is) c.put_plain-in-Interrupt.ensures

pub returns-in-TestClear-clause-written : goal.returns-in-TestClear-clause-written
returns-in-TestClear-clause-written c = rw (c.in-TestClear.is) c.put_plain-in-TestClear.ensures

pub returns-in-Ask-clause-written : goal.returns-in-Ask-clause-written
returns-in-Ask-clause-written c = rw (c.in-Ask.is) c.put_plain-in-Ask.ensures

pub returns-in-Expire-clause-written : goal.returns-in-Expire-clause-written
returns-in-Expire-clause-written c = rw (c.in-Expire.is) c.put_plain-in-Expire.ensures

pub returns-in-Spurious-clause-written : goal.returns-in-Spurious-clause-written
returns-in-Spurious-clause-written c = rw (c.in-Spurious.is) c.put_plain-in-Spurious.ensures

pub returns-in-Relock-clause-written : goal.returns-in-Relock-clause-written
returns-in-Relock-clause-written c = rw (c.in-Relock.is) c.put_plain-in-Relock.ensures

pub returns-in-End-clause-written : goal.returns-in-End-clause-written
returns-in-End-clause-written c = rw (c.in-End.is) c.put_plain-in-End.ensures

pub returns-in-Call-clause-written : goal.returns-in-Call-clause-written
returns-in-Call-clause-written c = rw (c.in-Call.is) c.put_call.ensures

pub returns-in-Return-clause-written : goal.returns-in-Return-clause-written
returns-in-Return-clause-written c = rw (c.in-Return.is) c.put_return.ensures

pub returns-in-Notify-clause-written : goal.returns-in-Notify-clause-written
returns-in-Notify-clause-written c = rw (c.in-Notify.is) c.put_notify.ensures

pub returns-in-Refuse-clause-written : goal.returns-in-Refuse-clause-written
returns-in-Refuse-clause-written c = rw (c.in-Refuse.is) c.put_refuse.ensures

pub returns-in-Time-clause-written : goal.returns-in-Time-clause-written
returns-in-Time-clause-written c = rw (c.in-Time.is) c.put_time.ensures
