use Rattle.std.proofs.Common.{arith, string_bytes}
use Rattle.history.proofs.Reporting.{Reports-all, Reports-none, Reports-next}
use Rattle.history.proofs.reports.put_steps.Goals as goal

pub steps-init : goal.steps-init
steps-init c = Reports-none c.args.names.now c.args.world.now (string_bytes c.args.report.now)

pub steps-preserved : goal.steps-preserved
steps-preserved c =
    Reports-next c.args.names.now c.args.world.now c.steps.world c.put_request.new.world c.args.steps.now c.steps.request-index _ (string_bytes c.args.report.now) (string_bytes c.steps.report)
    (string_bytes c.put_request.new.report) c.steps-test.true c.steps.invariant c.in_ok-put_request.ensures

pub returns : goal.returns
returns c =
    Reports-all c.args.names.now c.args.world.now c.steps.world c.args.steps.now c.steps.request-index (string_bytes c.args.report.now) (string_bytes c.steps.report) (omega (arith, c.steps-test.false))
    c.steps.invariant
