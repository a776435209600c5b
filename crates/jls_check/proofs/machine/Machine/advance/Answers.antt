use Rattle.std.proofs.Common.{true}
use Rattle.jls_check.proofs.machine.Machine.advance.Goals as goal

pub returns-in-Attach-clause-exact : goal.returns-in-Attach-clause-exact
returns-in-Attach-clause-exact c = rw (c.in-Attach.is) c.attach.ensures

pub returns-in-Call-clause-exact : goal.returns-in-Call-clause-exact
returns-in-Call-clause-exact c = rw (c.in-Call.is) (true, c.make_call.ensures)

pub returns-in-Return-clause-exact : goal.returns-in-Return-clause-exact
returns-in-Return-clause-exact c = rw (c.in-Return.is) (true, c.return_with.ensures)

pub returns-in-Lock-clause-exact : goal.returns-in-Lock-clause-exact
returns-in-Lock-clause-exact c = rw (c.in-Lock.is) (true, c.lock.ensures)

pub returns-in-Unlock-clause-exact : goal.returns-in-Unlock-clause-exact
returns-in-Unlock-clause-exact c = rw (c.in-Unlock.is) (true, c.unlock.ensures)

pub returns-in-Illegal-clause-exact : goal.returns-in-Illegal-clause-exact
returns-in-Illegal-clause-exact c = rw (c.in-Illegal.is) (true, c.illegal.ensures)

pub returns-in-BadArgument-clause-exact : goal.returns-in-BadArgument-clause-exact
returns-in-BadArgument-clause-exact c = rw (c.in-BadArgument.is) (true, c.bad_argument.ensures)

pub returns-in-Early-clause-exact : goal.returns-in-Early-clause-exact
returns-in-Early-clause-exact c = rw (c.in-Early.is) (true, c.early.ensures)

pub returns-in-Wait-clause-exact : goal.returns-in-Wait-clause-exact
returns-in-Wait-clause-exact c = rw (c.in-Wait.is) (true, c.wait.ensures)

pub returns-in-NotifyAll-clause-exact : goal.returns-in-NotifyAll-clause-exact
returns-in-NotifyAll-clause-exact c = rw (c.in-NotifyAll.is) (true, c.notify_all.ensures)

pub returns-in-Interrupt-clause-exact : goal.returns-in-Interrupt-clause-exact
returns-in-Interrupt-clause-exact c = rw (c.in-Interrupt.is) (true, c.interrupt.ensures)

pub returns-in-TestClear-clause-exact : goal.returns-in-TestClear-clause-exact
returns-in-TestClear-clause-exact c = rw (c.in-TestClear.is) (true, c.test_clear.ensures)

pub returns-in-Expire-clause-exact : goal.returns-in-Expire-clause-exact
returns-in-Expire-clause-exact c = rw (c.in-Expire.is) (true, c.expire.ensures)

pub returns-in-Spurious-clause-exact : goal.returns-in-Spurious-clause-exact
returns-in-Spurious-clause-exact c = rw (c.in-Spurious.is) (true, c.wake.ensures)

pub returns-in-Relock-clause-exact : goal.returns-in-Relock-clause-exact
returns-in-Relock-clause-exact c = rw (c.in-Relock.is) (true, c.relock.ensures)

pub returns-in-Ask-clause-exact : goal.returns-in-Ask-clause-exact
returns-in-Ask-clause-exact c = rw (c.in-Ask.is) (true, c.ask.ensures)

pub returns-in-Refuse-clause-exact : goal.returns-in-Refuse-clause-exact
returns-in-Refuse-clause-exact c = rw (c.in-Refuse.is) (true, c.refuse.ensures)

pub returns-in-End-clause-exact : goal.returns-in-End-clause-exact
returns-in-End-clause-exact c = rw (c.in-End.is) (true, c.end.ensures)

pub returns-in-Time-clause-exact : goal.returns-in-Time-clause-exact
returns-in-Time-clause-exact c = rw (c.in-Time.is) (true, c.time.ensures)
