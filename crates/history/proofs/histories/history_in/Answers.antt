use Rattle.std.proofs.Common.{subst}
use Rattle.history.specs.Plans.{IsPlanOf}
use Rattle.history.proofs.histories.history_in.Goals as goal

pub returns-clause-history : goal.returns-clause-history
returns-clause-history c = (c.in_ok-plan.plan, subst (IsPlanOf c.in_ok-plan.plan) c.deref.ensures.value c.in_ok-plan.ensures.a_plan, c.in_ok-history.ensures)
