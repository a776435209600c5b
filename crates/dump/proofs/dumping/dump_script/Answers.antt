use Rattle.std.proofs.Common.{string_bytes}
use Rattle.dump.proofs.Written.{dump_written, dump_cut}
use Rattle.dump.proofs.dumping.dump_script.Goals as goal

pub returns-clause-written : goal.returns-clause-written
returns-clause-written g c =
    dump_written c.write_out.result (g.S.Source.left c.args.source.now) (g.W.Sink.holds c.args.sink.now) (g.W.Sink.holds c.write_out.new.sink) c.in_ok-bytes.bytes.items c.deref.result.now
    c.as_bytes.result.now (string_bytes c.in_ok-text.text) c.in_ok-bytes.ensures.all c.deref.ensures.value c.in_ok-text.ensures.dump c.as_bytes.ensures.value c.write_out.ensures.ok

pub returns-clause-cut : goal.returns-clause-cut
returns-clause-cut g c =
    dump_cut c.write_out.result _ (g.S.Source.left c.args.source.now) (g.W.Sink.holds c.args.sink.now) (g.W.Sink.holds c.write_out.new.sink) c.in_ok-bytes.bytes.items c.deref.result.now
    c.as_bytes.result.now (string_bytes c.in_ok-text.text) c.in_ok-bytes.ensures.all c.deref.ensures.value c.in_ok-text.ensures.dump c.as_bytes.ensures.value c.write_out.ensures.prefix
