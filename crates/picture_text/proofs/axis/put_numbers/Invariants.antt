use Rattle.std.proofs.Common.{◌≡◌, ◌++◌, string_bytes}
use Rattle.picture_text.specs.Axis.{numbers_below}
use Rattle.picture_text.specs.Nodes.{node_text}
use Rattle.picture_text.proofs.axis.put_numbers.Given as goal

abbrev pub invariant-columns : goal.invariant-columns
invariant-columns l = string_bytes l.text ≡ string_bytes l.fn.text ++ node_text (numbers_below l.layout l.column)
