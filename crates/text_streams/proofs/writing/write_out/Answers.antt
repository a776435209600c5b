use Rattle.text_streams.proofs.Pieces.{Wrote-more, Wrote-prefix}
use Rattle.text_streams.proofs.writing.write_out.Goals as goal

pub returns-in_default-clause-prefix : goal.returns-in_default-clause-prefix
returns-in_default-clause-prefix g c =
    Wrote-prefix (g.W.Sink.holds c.args.sink.now) (g.W.Sink.holds c.writing.sink) (g.W.Sink.holds c.put.new.self) c.args.bytes.now c.writing.rest.now c.writing.invariant.wrote (c.in_default.ensures.cases).1

pub writing-preserved : goal.writing-preserved
writing-preserved g c = record {
  wrote = rw c.split_at.ensures.back (Wrote-more (g.W.Sink.holds c.args.sink.now) (g.W.Sink.holds c.writing.sink) (g.W.Sink.holds c.put.new.self) c.args.bytes.now c.writing.rest.now c.in-Some.count c.writing.invariant.wrote (c.in-Some.ensures.cases).2);
  whole = λ failed. c.writing.invariant.whole ((c.in-Some.ensures.cases).3 failed);
}
