use Rattle.serde_json.proofs.OnLiterals.{serde_json_on_literals}
use Rattle.history_moves.proofs.writing.pushing.push_made.Goals as goal

pub returns-in-Attach-clause-told : goal.returns-in-Attach-clause-told
unfolding serde_json_on_literals
returns-in-Attach-clause-told c = rw c.in-Attach.is c.push_one.ensures.told

pub returns-in-Lock-clause-told : goal.returns-in-Lock-clause-told
unfolding serde_json_on_literals
returns-in-Lock-clause-told c = rw c.in-Lock.is c.push_one-in-Lock.ensures.told

pub returns-in-Unlock-clause-told : goal.returns-in-Unlock-clause-told
unfolding serde_json_on_literals
returns-in-Unlock-clause-told c = rw c.in-Unlock.is c.push_one-in-Unlock.ensures.told

pub returns-in-Illegal-clause-told : goal.returns-in-Illegal-clause-told
unfolding serde_json_on_literals
returns-in-Illegal-clause-told c = rw c.in-Illegal.is c.push_one-in-Illegal.ensures.told

pub returns-in-BadArgument-clause-told : goal.returns-in-BadArgument-clause-told
unfolding serde_json_on_literals
returns-in-BadArgument-clause-told c = rw c.in-BadArgument.is c.push_one-in-BadArgument.ensures.told

pub returns-in-Early-clause-told : goal.returns-in-Early-clause-told
unfolding serde_json_on_literals
returns-in-Early-clause-told c = rw c.in-Early.is c.push_one-in-Early.ensures.told

pub returns-in-Wait-clause-told : goal.returns-in-Wait-clause-told
unfolding serde_json_on_literals
returns-in-Wait-clause-told c = rw c.in-Wait.is c.push_one-in-Wait.ensures.told

pub returns-in-NotifyAll-clause-told : goal.returns-in-NotifyAll-clause-told
unfolding serde_json_on_literals
returns-in-NotifyAll-clause-told c = rw c.in-NotifyAll.is c.push_one-in-NotifyAll.ensures.told

pub returns-in-Interrupt-clause-told : goal.returns-in-Interrupt-clause-told
unfolding serde_json_on_literals
returns-in-Interrupt-clause-told c = rw c.in-Interrupt.is c.push_one-in-Interrupt.ensures.told

pub returns-in-TestClear-clause-told : goal.returns-in-TestClear-clause-told
unfolding serde_json_on_literals
returns-in-TestClear-clause-told c = rw c.in-TestClear.is c.push_one-in-TestClear.ensures.told

pub returns-in-Ask-clause-told : goal.returns-in-Ask-clause-told
unfolding serde_json_on_literals
returns-in-Ask-clause-told c = rw c.in-Ask.is c.push_one-in-Ask.ensures.told

pub returns-in-Expire-clause-told : goal.returns-in-Expire-clause-told
unfolding serde_json_on_literals
returns-in-Expire-clause-told c = rw c.in-Expire.is c.push_one-in-Expire.ensures.told

pub returns-in-Spurious-clause-told : goal.returns-in-Spurious-clause-told
unfolding serde_json_on_literals
returns-in-Spurious-clause-told c = rw c.in-Spurious.is c.push_one-in-Spurious.ensures.told

pub returns-in-Relock-clause-told : goal.returns-in-Relock-clause-told
unfolding serde_json_on_literals
returns-in-Relock-clause-told c = rw c.in-Relock.is c.push_one-in-Relock.ensures.told

pub returns-in-End-clause-told : goal.returns-in-End-clause-told
unfolding serde_json_on_literals
returns-in-End-clause-told c = rw c.in-End.is c.push_one-in-End.ensures.told

pub returns-in-Time-clause-told : goal.returns-in-Time-clause-told
unfolding serde_json_on_literals
returns-in-Time-clause-told c = rw c.in-Time.is c.push_long.ensures.told
