use Rattle.std.proofs.Common.{rules}
use Rattle.history.proofs.plans.call_of.Goals as goal

pub returns-in-Notify-clause-call : goal.returns-in-Notify-clause-call
returns-in-Notify-clause-call c = search rules
