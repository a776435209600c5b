use Rattle.std.proofs.Common.{◌≡◌, ◌++◌, string_bytes}
use Rattle.picture_text.specs.Axis.{stuck_below}
use Rattle.picture_text.specs.Nodes.{node_text}
use Rattle.picture_text.proofs.cycles.put_all_stuck.Given as goal

abbrev pub invariant-members : goal.invariant-members
invariant-members l = string_bytes l.text ≡ string_bytes l.fn.text ++ node_text (stuck_below l.layout l.lanes l.cycle l.number)
