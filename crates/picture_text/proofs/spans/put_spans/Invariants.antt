use Rattle.std.proofs.Common.{◌≡◌, ◌≤◌, ◌++◌, string_bytes}
use Rattle.picture_text.specs.Nodes.{node_text}
use Rattle.picture_text.specs.Spans.{begin_of, spans_below}
use Rattle.picture_text.proofs.spans.put_spans.Given as goal

abbrev pub invariant-spans : goal.invariant-spans
invariant-spans l = record {
  from : l.from ≡ begin_of l.layout l.spans l.number;
  within : l.from ≤ 20000;
  text : string_bytes l.text ≡ string_bytes l.fn.text ++ node_text (spans_below l.naming l.layout l.thread l.top l.spans l.number);
}
