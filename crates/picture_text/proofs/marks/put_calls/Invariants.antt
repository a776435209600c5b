use Rattle.std.proofs.Common.{◌≡◌, ◌++◌, string_bytes}
use Rattle.picture_text.specs.Marks.{calls_below}
use Rattle.picture_text.specs.Nodes.{node_text}
use Rattle.picture_text.proofs.marks.put_calls.Given as goal

abbrev pub invariant-calls : goal.invariant-calls
invariant-calls l = string_bytes l.text ≡ string_bytes l.fn.text ++ node_text (calls_below l.naming l.layout l.thread l.top l.calls l.number)
