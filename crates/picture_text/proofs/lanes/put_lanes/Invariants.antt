use Rattle.std.proofs.Common.{◌≡◌, ◌++◌, string_bytes}
use Rattle.picture_text.specs.Lanes.{lanes_below}
use Rattle.picture_text.specs.Nodes.{node_text}
use Rattle.picture_text.proofs.lanes.put_lanes.Given as goal

abbrev pub invariant-lanes : goal.invariant-lanes
invariant-lanes l = string_bytes l.text ≡ string_bytes l.fn.text ++ node_text (lanes_below l.naming l.layout l.lanes l.number)
