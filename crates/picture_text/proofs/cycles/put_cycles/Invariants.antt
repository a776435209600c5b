use Rattle.std.proofs.Common.{◌≡◌, ◌++◌, string_bytes}
use Rattle.picture_text.specs.Axis.{cycles_below}
use Rattle.picture_text.specs.Nodes.{node_text}
use Rattle.picture_text.proofs.cycles.put_cycles.Given as goal

abbrev pub invariant-cycles : goal.invariant-cycles
invariant-cycles l = string_bytes l.text ≡ string_bytes l.fn.text ++ node_text (cycles_below l.naming l.layout l.lanes l.cycles l.number)
