use Rattle.std.proofs.Common.{subst}
use Rattle.history.specs.Plans.{IsPlanOf}
use Rattle.history.proofs.running.report_in.Goals as goal

pub returns-clause-report : goal.returns-clause-report
returns-clause-report c = (c.in_ok-plan.plan, subst (IsPlanOf c.in_ok-plan.plan) c.deref.ensures.value c.in_ok-plan.ensures.a_plan, c.in_ok-report.ensures)
