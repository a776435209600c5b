use Rattle.std.proofs.Common.{◌≡◌, ◌≤◌, ◌++◌, string_bytes}
use Rattle.picture_text.specs.Nodes.{node_text}
use Rattle.picture_text.specs.Strips.{strip_begin, strip_below}
use Rattle.picture_text.proofs.strips.put_strip_spans.Given as goal

abbrev pub invariant-spans : goal.invariant-spans
invariant-spans l = record {
  from : l.from ≡ strip_begin l.layout l.spans l.index;
  within : l.from ≤ 20000;
  text : string_bytes l.text ≡ string_bytes l.fn.text ++ node_text (strip_below l.naming l.layout l.lanes l.number l.object l.spans l.index);
}
