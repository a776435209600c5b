use Rattle.std.proofs.Common.{◌≡◌, ◌++◌, string_bytes}
use Rattle.picture_text.specs.Axis.{moments_below}
use Rattle.picture_text.specs.Nodes.{node_text}
use Rattle.picture_text.proofs.axis.put_moments.Given as goal

abbrev pub invariant-moments : goal.invariant-moments
invariant-moments l = string_bytes l.text ≡ string_bytes l.fn.text ++ node_text (moments_below l.layout l.moments l.number)
