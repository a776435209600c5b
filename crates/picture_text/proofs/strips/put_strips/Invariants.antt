use Rattle.std.proofs.Common.{◌≡◌, ◌++◌, string_bytes}
use Rattle.picture_text.specs.Nodes.{node_text}
use Rattle.picture_text.specs.Strips.{strips_below}
use Rattle.picture_text.proofs.strips.put_strips.Given as goal

abbrev pub invariant-strips : goal.invariant-strips
invariant-strips l = string_bytes l.text ≡ string_bytes l.fn.text ++ node_text (strips_below l.naming l.layout l.lanes l.strips l.number)
