use Rattle.std.proofs.Common.{string_bytes}
use Rattle.history.proofs.Reporting.{step_reported, relayout_reported}
use Rattle.history.proofs.reports.put_request.Goals as goal

pub returns-in-Step : goal.returns-in-Step
returns-in-Step c =
    step_reported c.put_answer.result c.args.names.now c.args.world.now c.step-answer.new.self c.args.request c.in-Step.step (string_bytes c.args.report.now) (string_bytes c.put_answer.new.report)
    c.step-answer.result c.in-Step.is c.step-answer.ensures.exact c.step-answer.ensures.run c.put_answer.ensures.told c.put_answer.ensures.memory

pub returns-in-Relayout : goal.returns-in-Relayout
returns-in-Relayout c =
    relayout_reported c.put_relayout.result c.args.names.now c.args.world.now c.relayout-answer.new.self c.args.request c.in-Relayout.split (string_bytes c.args.report.now) (string_bytes c.put_relayout.new.report)
    c.relayout-answer.result c.in-Relayout.is c.relayout-answer.ensures.exact c.relayout-answer.ensures.shows c.put_relayout.ensures.told c.put_relayout.ensures.memory
