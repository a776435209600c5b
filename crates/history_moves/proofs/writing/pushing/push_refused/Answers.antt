use Rattle.serde_json.proofs.OnLiterals.{serde_json_on_literals}
use Rattle.history_moves.proofs.writing.pushing.push_refused.Goals as goal

pub returns-in-NoMonitor-clause-told : goal.returns-in-NoMonitor-clause-told
unfolding serde_json_on_literals
returns-in-NoMonitor-clause-told c = rw c.in-NoMonitor.is c.push_one.ensures.told

pub returns-in-Memory-clause-told : goal.returns-in-Memory-clause-told
unfolding serde_json_on_literals
returns-in-Memory-clause-told c = rw c.in-Memory.is c.push_one-in-Memory.ensures.told

pub returns-in-TooDeep-clause-told : goal.returns-in-TooDeep-clause-told
unfolding serde_json_on_literals
returns-in-TooDeep-clause-told c = rw c.in-TooDeep.is c.push_one-in-TooDeep.ensures.told

pub returns-in-StillOwner-clause-told : goal.returns-in-StillOwner-clause-told
unfolding serde_json_on_literals
returns-in-StillOwner-clause-told c = rw c.in-StillOwner.is c.push_one-in-StillOwner.ensures.told

pub returns-in-NoThread-clause-told : goal.returns-in-NoThread-clause-told
unfolding serde_json_on_literals
returns-in-NoThread-clause-told c = rw c.in-NoThread.is c.push_one-in-NoThread.ensures.told
