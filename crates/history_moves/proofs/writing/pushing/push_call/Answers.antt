use Rattle.std.proofs.Common.{rules}
use Rattle.serde_json.proofs.OnLiterals.{serde_json_on_literals}
use Rattle.history_moves.proofs.Fronts.{wait_is}
use Rattle.history_moves.proofs.writing.pushing.push_call.Goals as goal

pub returns-in-Enter-clause-told : goal.returns-in-Enter-clause-told
unfolding serde_json_on_literals
returns-in-Enter-clause-told c = rw c.in-Enter.is c.push_two.ensures.told

pub returns-in-Exit-clause-told : goal.returns-in-Exit-clause-told
unfolding serde_json_on_literals
returns-in-Exit-clause-told c = rw c.in-Exit.is c.push_two-in-Exit.ensures.told

pub returns-in-Notify-clause-told : goal.returns-in-Notify-clause-told
unfolding serde_json_on_literals
returns-in-Notify-clause-told c = rw c.in-Notify.is c.push_two-in-Notify.ensures.told

pub returns-in-NotifyAll-clause-told : goal.returns-in-NotifyAll-clause-told
unfolding serde_json_on_literals
returns-in-NotifyAll-clause-told c = rw c.in-NotifyAll.is c.push_two-in-NotifyAll.ensures.told

pub returns-in-Holds-clause-told : goal.returns-in-Holds-clause-told
unfolding serde_json_on_literals
returns-in-Holds-clause-told c = rw c.in-Holds.is c.push_two-in-Holds.ensures.told

pub returns-in-Interrupt-clause-told : goal.returns-in-Interrupt-clause-told
unfolding serde_json_on_literals
returns-in-Interrupt-clause-told c = rw c.in-Interrupt.is c.push_two-in-Interrupt.ensures.told

pub returns-in-IsInterrupted-clause-told : goal.returns-in-IsInterrupted-clause-told
unfolding serde_json_on_literals
returns-in-IsInterrupted-clause-told c = rw c.in-IsInterrupted.is c.push_two-in-IsInterrupted.ensures.told

pub returns-in-Interrupted-clause-told : goal.returns-in-Interrupted-clause-told
unfolding serde_json_on_literals
returns-in-Interrupted-clause-told c = rw c.in-Interrupted.is c.push_one.ensures.told

pub returns-in-End-clause-told : goal.returns-in-End-clause-told
unfolding serde_json_on_literals
returns-in-End-clause-told c = rw c.in-End.is c.push_one-in-End.ensures.told

pub returns-in-Wait-clause-told : goal.returns-in-Wait-clause-told
returns-in-Wait-clause-told c = rw (c.in-Wait.is, wait_is) (search rules)
