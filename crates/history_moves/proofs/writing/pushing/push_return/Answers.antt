use Rattle.serde_json.proofs.OnLiterals.{serde_json_on_literals}
use Rattle.history_moves.proofs.writing.pushing.push_return.Goals as goal

pub returns-in-Entered-clause-told : goal.returns-in-Entered-clause-told
unfolding serde_json_on_literals
returns-in-Entered-clause-told c = rw c.in-Entered.is c.push_one.ensures.told

pub returns-in-Exited-clause-told : goal.returns-in-Exited-clause-told
unfolding serde_json_on_literals
returns-in-Exited-clause-told c = rw c.in-Exited.is c.push_one-in-Exited.ensures.told

pub returns-in-WaitOver-clause-told : goal.returns-in-WaitOver-clause-told
unfolding serde_json_on_literals
returns-in-WaitOver-clause-told c = rw c.in-WaitOver.is c.push_one-in-WaitOver.ensures.told

pub returns-in-Interrupted-clause-told : goal.returns-in-Interrupted-clause-told
unfolding serde_json_on_literals
returns-in-Interrupted-clause-told c = rw c.in-Interrupted.is c.push_one-in-Interrupted.ensures.told

pub returns-in-Notified-clause-told : goal.returns-in-Notified-clause-told
unfolding serde_json_on_literals
returns-in-Notified-clause-told c = rw c.in-Notified.is c.push_one-in-Notified.ensures.told

pub returns-in-Yes-clause-told : goal.returns-in-Yes-clause-told
unfolding serde_json_on_literals
returns-in-Yes-clause-told c = rw c.in-Yes.is c.push_one-in-Yes.ensures.told

pub returns-in-No-clause-told : goal.returns-in-No-clause-told
unfolding serde_json_on_literals
returns-in-No-clause-told c = rw c.in-No.is c.push_one-in-No.ensures.told

pub returns-in-Done-clause-told : goal.returns-in-Done-clause-told
unfolding serde_json_on_literals
returns-in-Done-clause-told c = rw c.in-Done.is c.push_one-in-Done.ensures.told

pub returns-in-Ended-clause-told : goal.returns-in-Ended-clause-told
unfolding serde_json_on_literals
returns-in-Ended-clause-told c = rw c.in-Ended.is c.push_one-in-Ended.ensures.told

pub returns-in-IllegalMonitorState-clause-told : goal.returns-in-IllegalMonitorState-clause-told
unfolding serde_json_on_literals
returns-in-IllegalMonitorState-clause-told c = rw c.in-IllegalMonitorState.is c.push_one-in-IllegalMonitorState.ensures.told

pub returns-in-IllegalArgument-clause-told : goal.returns-in-IllegalArgument-clause-told
unfolding serde_json_on_literals
returns-in-IllegalArgument-clause-told c = rw c.in-IllegalArgument.is c.push_one-in-IllegalArgument.ensures.told
