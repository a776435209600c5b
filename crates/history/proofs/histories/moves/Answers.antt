use Rattle.std.proofs.Common.{refl}
use Rattle.history.specs.Histories.{IsHistoryOf}
use Rattle.history.proofs.Telling.{text_written, text_cut}
use Rattle.history.proofs.histories.moves.Goals as goal

pub returns-clause-written : goal.returns-clause-written
returns-clause-written g c =
    text_written IsHistoryOf c.write_out.result (g.S.Source.left c.args.source.now) (g.W.Sink.holds c.args.sink.now) (g.W.Sink.holds c.write_out.new.sink) c.in_ok-history.ensures.history.0 c.in_ok-bytes.bytes.items c.in_ok-bytes.bytes.items
    c.deref.result.now c.in_ok-history.history.items c.in_ok-bytes.ensures.all refl c.in_ok-history.ensures.history.1 c.in_ok-history.ensures.history.2 c.deref.ensures.value c.write_out.ensures.ok

pub returns-clause-cut : goal.returns-clause-cut
returns-clause-cut g c =
    text_cut IsHistoryOf c.write_out.result _ (g.S.Source.left c.args.source.now) (g.W.Sink.holds c.args.sink.now) (g.W.Sink.holds c.write_out.new.sink) c.in_ok-history.ensures.history.0 c.in_ok-bytes.bytes.items c.in_ok-bytes.bytes.items
    c.deref.result.now c.in_ok-history.history.items c.in_ok-bytes.ensures.all refl c.in_ok-history.ensures.history.1 c.in_ok-history.ensures.history.2 c.deref.ensures.value c.write_out.ensures.prefix
