use Rattle.std.proofs.Common.{refl, string_bytes}
use Rattle.history.specs.Reports.{IsReportOf}
use Rattle.history.proofs.Telling.{text_written, text_cut}
use Rattle.history.proofs.running.run.Goals as goal

pub returns-clause-written : goal.returns-clause-written
returns-clause-written g c =
    text_written IsReportOf c.write_out.result (g.S.Source.left c.args.source.now) (g.W.Sink.holds c.args.sink.now) (g.W.Sink.holds c.write_out.new.sink) c.in_ok-report.ensures.report.0 c.in_ok-bytes.bytes.items c.in_ok-bytes.bytes.items
    c.as_bytes.result.now (string_bytes c.in_ok-report.report) c.in_ok-bytes.ensures.all refl c.in_ok-report.ensures.report.1 c.in_ok-report.ensures.report.2 c.as_bytes.ensures.value c.write_out.ensures.ok

pub returns-clause-cut : goal.returns-clause-cut
returns-clause-cut g c =
    text_cut IsReportOf c.write_out.result _ (g.S.Source.left c.args.source.now) (g.W.Sink.holds c.args.sink.now) (g.W.Sink.holds c.write_out.new.sink) c.in_ok-report.ensures.report.0 c.in_ok-bytes.bytes.items c.in_ok-bytes.bytes.items
    c.as_bytes.result.now (string_bytes c.in_ok-report.report) c.in_ok-bytes.ensures.all refl c.in_ok-report.ensures.report.1 c.in_ok-report.ensures.report.2 c.as_bytes.ensures.value c.write_out.ensures.prefix
