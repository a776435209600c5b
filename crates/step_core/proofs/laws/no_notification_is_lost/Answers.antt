use Rattle.step_core.proofs.Lists.Reached.{reached_notified, reached_interrupted, reached_elapsed, reached_spurious}
use Rattle.step_core.proofs.laws.no_notification_is_lost.Goals as goal

pub returns-clause-notified : goal.returns-clause-notified
returns-clause-notified c = reached_notified

pub returns-clause-interrupted : goal.returns-clause-interrupted
returns-clause-interrupted c = reached_interrupted

pub returns-clause-elapsed : goal.returns-clause-elapsed
returns-clause-elapsed c = reached_elapsed

pub returns-clause-spurious : goal.returns-clause-spurious
returns-clause-spurious c = reached_spurious
