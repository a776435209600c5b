use Rattle.std.proofs.Common.{string_bytes}
use Rattle.history.proofs.Reporting.{report_done}
use Rattle.history.proofs.reports.report_of.Goals as goal

pub returns : goal.returns
returns c =
    report_done c.args.plan.now c.deref.result.now c.in_ok-world.world c.put_steps.new.world c.deref-2.result.now (string_bytes c.new-report.result) (string_bytes c.put_steps.new.report) (string_bytes c.put_objects.new.report)
    c.deref.ensures.value c.in_ok-world.ensures.world c.deref-2.ensures.value c.new-report.ensures.bytes c.in_ok-put_steps.ensures c.in_ok-put_objects.ensures
