use Rattle.serde_json.proofs.OnLiterals.{serde_json_on_literals}
use Rattle.history_moves.proofs.writing.pushing.push_notify.Goals as goal

pub returns-in-Some-clause-told : goal.returns-in-Some-clause-told
unfolding serde_json_on_literals
returns-in-Some-clause-told c = rw c.in-Some.is c.push_two.ensures.told

pub returns-in-None-clause-told : goal.returns-in-None-clause-told
unfolding serde_json_on_literals
returns-in-None-clause-told c = rw c.in-None.is c.push_one.ensures.told
