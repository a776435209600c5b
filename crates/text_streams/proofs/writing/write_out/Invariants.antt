use Rattle.std.proofs.Common.{length}
use Rattle.text_streams.proofs.Pieces.{Wrote}
use Rattle.text_streams.proofs.writing.write_out.Given as goal

abbrev pub invariant-writing : goal.invariant-writing
invariant-writing g l = record {
  wrote : Wrote (g.W.Sink.holds l.fn.sink) (g.W.Sink.holds l.sink) l.fn.bytes l.rest;
  whole : g.W.Sink.has_failed l.sink → g.W.Sink.has_failed l.fn.sink;
}

abbrev pub decreases-writing : goal.decreases-writing
decreases-writing g l = length l.rest
