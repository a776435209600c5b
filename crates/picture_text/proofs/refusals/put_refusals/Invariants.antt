use Rattle.std.proofs.Common.{◌≡◌, ◌++◌, string_bytes}
use Rattle.picture_text.specs.Refusals.{refusals_below}
use Rattle.picture_text.specs.Nodes.{node_text}
use Rattle.picture_text.proofs.refusals.put_refusals.Given as goal

abbrev pub invariant-refusals : goal.invariant-refusals
invariant-refusals l = string_bytes l.text ≡ string_bytes l.fn.text ++ node_text (refusals_below l.naming l.layout l.refusals l.number)
