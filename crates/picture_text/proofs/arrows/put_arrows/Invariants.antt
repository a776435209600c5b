use Rattle.std.proofs.Common.{◌≡◌, ◌++◌, string_bytes}
use Rattle.picture_text.specs.Arrows.{arrows_below}
use Rattle.picture_text.specs.Nodes.{node_text}
use Rattle.picture_text.proofs.arrows.put_arrows.Given as goal

abbrev pub invariant-arrows : goal.invariant-arrows
invariant-arrows l = string_bytes l.text ≡ string_bytes l.fn.text ++ node_text (arrows_below l.naming l.layout l.lanes l.arrows l.number)
