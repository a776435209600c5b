use Rattle.std.proofs.Common.{take, string_bytes}
use Rattle.history.specs.Reports.{Reports}
use Rattle.history.proofs.reports.put_steps.Given as goal

abbrev pub invariant-steps : goal.invariant-steps
invariant-steps l = Reports l.names (l.fn.world) (take l.request-index l.steps) l.world (string_bytes l.fn.report) (string_bytes l.report)
